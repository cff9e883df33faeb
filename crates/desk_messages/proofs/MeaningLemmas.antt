-- A message has one meaning, and the rows of a file are read in one way.
use Rattle.std.proofs.Common.{◌≡◌, ◌≢◌, ◌∙◌, ℕ, ℤ, pos, List, Option, Some, Result, Ok, Err, refl, ap, sym, subst}
use Rattle.papers.specs.File.{AreFileRecords, Fields}
use Rattle.papers.specs.Import.{AreRows, FileHasFault, IsFirstFault, IsReading}
use Rattle.papers.specs.declared.file_kind.FileKind.{FileKind}
use Rattle.papers.specs.declared.row_fault.RowFault.{RowFault}
use Rattle.papers.specs.declared.row_fault.RowFault.TheVariants as row_faults
use Rattle.office_rules.specs.declared.office.row.Row.{Row}
use Rattle.office_rules.specs.declared.decision.row_cause.RowCause.{RowCause}
use Rattle.conversation.specs.declared.message.method.Method.{Method}
use Rattle.conversation.specs.message.Messages.{Message}
use Rattle.asks.specs.Ask.{Asks, HasParts, IsReadOf, row_at, row_method}
use Rattle.asks.specs.Body.{BodySays, FitsShape}
use Rattle.asks.specs.Endpoint.{endpoint_of}
use Rattle.asks.specs.Parts.{Parts, parts_of}
use Rattle.asks.specs.Target.{Names, target_kinds, target_text}
use Rattle.asks.specs.Value.{AreOf}
use Rattle.asks.specs.declared.ask.Ask.{Ask}
use Rattle.asks.specs.declared.kind.AskKind.{AskKind}
use Rattle.asks.specs.declared.value.Value.{Value}
use Rattle.desk_messages.specs.declared.desk_fault.DeskFault.{DeskFault}
use Rattle.desk_messages.specs.declared.desk_fault.DeskFault.TheVariants as faults
use Rattle.desk_messages.specs.declared.meaning.Meaning.{Meaning}
use Rattle.desk_messages.specs.declared.meaning.Meaning.TheVariants as meanings
use Rattle.desk_messages.specs.Meaning.{AreRead, IsFor, IsGiven, IsMeaning, IsNoBody, IsOutside, MessageAsks, MessageHasFault}
use Rattle.desk_messages.specs.Routes.{IsAllowed, IsAskedFor, NamesNothing}
use Rattle.desk_messages.proofs.RouteLemmas.{one_kind, one_values}

-- ---- what is read of a message

-- what is read of a body, the message asks
pub has_parts : (m : Message) (kind : AskKind) (values : List Value) (p : Parts) → IsFor m kind values → IsReadOf kind values m.body p → HasParts m p
has_parts m kind values p is read =
    let row : endpoint_of kind ≡ row_at p = ap endpoint_of (sym read.of_kind) in
    let are : AreOf (target_kinds (endpoint_of kind)) p.target =
    subst (λ (vs : List Value). AreOf (target_kinds (endpoint_of kind)) vs) (sym read.of_target) is.names.are in
    record {
      askable = record {
        target = subst (λ r. AreOf (target_kinds r) p.target) row are;
        body = subst (λ r. FitsShape r.shape p.body p.bulk) row read.fits;
      };
      method = subst (λ r. r.method ≡ row_method m.method) row is.asked;
      target =
          is.names.written ∙ ap (λ (vs : List Value). target_text (endpoint_of kind) vs) (sym read.of_target)
          ∙ ap (λ r. target_text r p.target) row;
      body = subst (λ r. BodySays r.shape p.body p.bulk m.body) row read.says;
    }

-- a message that asks something is for its kind, with its values
is_for : (m : Message) (p : Parts) → HasParts m p → IsFor m p.kind p.target
is_for m p has = record { names = record { are = has.askable.target; written = has.target }; asked = has.method }

is_read : (m : Message) (p : Parts) → HasParts m p → IsReadOf p.kind p.target m.body p
is_read m p has = record { of_kind = refl; of_target = refl; fits = has.askable.body; says = has.body }

-- ---- what excludes what

one_moment : (now : Option ℤ) (a b : ℕ) → IsGiven now a → IsGiven now b → a ≡ b
one_moment now a b one other = let e : Some (pos a) ≡ Some (pos b) = sym one.given ∙ other.given in cc

not_outside : (now : Option ℤ) (a : ℕ) → IsGiven now a → ¬ IsOutside now
not_outside now a is out =
    let e : pos a ≡ out.second = (let s : Some (pos a) ≡ Some out.second = sym is.given ∙ out.given in cc) in
    out.outside a is.is_moment e

-- a target that is asked for by one method is not asked for by another alone
not_allowed : (target : List ℕ) (method allowed : Method) (kind : AskKind) (values : List Value) → IsAskedFor target method kind values
    → ¬ IsAllowed target method allowed
not_allowed target method allowed kind values is only =
    let same = one_kind target only.kind kind only.values values only.names is.names in
    only.other (sym only.own ∙ ap (λ k. (endpoint_of k).method) same ∙ is.asked)

-- a message that asks something has a body for whatever kind its target names
not_bodiless : (m : Message) (ask : Ask) (kind : AskKind) (values : List Value) → Asks m ask → ¬ IsNoBody m kind values
not_bodiless m ask kind values asks none =
    let p = parts_of ask in
    let own = is_for m p asks in
    let kinds = one_kind m.target p.kind kind p.target values own.names none.is_for.names in
    let here : Names (endpoint_of kind) m.target p.target = subst (λ k. Names (endpoint_of k) m.target p.target) kinds own.names in
    let lists = one_values m.target kind p.target values here none.is_for.names in
    none.none ask
    (subst (λ (vs : List Value). IsReadOf kind vs m.body p) lists (subst (λ k. IsReadOf k p.target m.body p) kinds (is_read m p asks)))

-- a message that asks something has no fault
never_both : (m : Message) (now : Option ℤ) (moment : ℕ) (ask : Ask) (fault : DeskFault) → MessageAsks m now moment ask → ¬ MessageHasFault m now fault
never_both m now moment ask faults.NoRoute asks is =
    let own = is_for m (parts_of ask) asks.asks in is.0 (parts_of ask).kind (parts_of ask).target own.names
never_both m now moment ask (faults.Method allowed) asks is =
    not_allowed m.target m.method allowed (parts_of ask).kind (parts_of ask).target (is_for m (parts_of ask) asks.asks) is.0
never_both m now moment ask faults.Clock asks is = not_outside now moment asks.comes is.3
never_both m now moment ask faults.Body asks is = not_bodiless m ask is.0 is.1 asks.asks is.3

-- ---- one fault

one_fault : (m : Message) (now : Option ℤ) (a b : DeskFault) → MessageHasFault m now a → MessageHasFault m now b → a ≡ b
one_fault m now faults.NoRoute faults.NoRoute x y = refl
one_fault m now faults.NoRoute (faults.Method allowed) x y = absurd (x.0 y.0.kind y.0.values y.0.names)
one_fault m now faults.NoRoute faults.Clock x y = absurd (x.0 y.0 y.1 y.2.names)
one_fault m now faults.NoRoute faults.Body x y = absurd (x.0 y.0 y.1 y.3.is_for.names)
one_fault m now (faults.Method allowed) faults.NoRoute x y = absurd (y.0 x.0.kind x.0.values x.0.names)
one_fault m now (faults.Method allowed) (faults.Method other) x y =
    let same = one_kind m.target x.0.kind y.0.kind x.0.values y.0.values x.0.names y.0.names in
    ap faults.Method (sym x.0.own ∙ ap (λ k. (endpoint_of k).method) same ∙ y.0.own)
one_fault m now (faults.Method allowed) faults.Clock x y = absurd (not_allowed m.target m.method allowed y.0 y.1 y.2 x.0)
one_fault m now (faults.Method allowed) faults.Body x y = absurd (not_allowed m.target m.method allowed y.0 y.1 y.3.is_for x.0)
one_fault m now faults.Clock faults.NoRoute x y = absurd (y.0 x.0 x.1 x.2.names)
one_fault m now faults.Clock (faults.Method allowed) x y = absurd (not_allowed m.target m.method allowed x.0 x.1 x.2 y.0)
one_fault m now faults.Clock faults.Clock x y = refl
one_fault m now faults.Clock faults.Body x y = absurd (not_outside now y.2 y.4 x.3)
one_fault m now faults.Body faults.NoRoute x y = absurd (y.0 x.0 x.1 x.3.is_for.names)
one_fault m now faults.Body (faults.Method allowed) x y = absurd (not_allowed m.target m.method allowed x.0 x.1 x.3.is_for y.0)
one_fault m now faults.Body faults.Clock x y = absurd (not_outside now x.2 x.4 y.3)
one_fault m now faults.Body faults.Body x y = refl

-- ---- one meaning

-- a message asks one thing
abbrev AsksOne : Type 0
AsksOne = (m : Message) (a b : Ask) → Asks m a → Asks m b → a ≡ b

-- so it has one meaning, where no memory lacks
pub one_meaning : AsksOne → (m : Message) (now : Option ℤ) (a b : Meaning) → IsMeaning m now a → IsMeaning m now b
    → a ≢ meanings.Memory → b ≢ meanings.Memory → a ≡ b
one_meaning one m now (meanings.Asks moment a) (meanings.Asks later b) x y u v =
    ap (λ at. meanings.Asks at a) (one_moment now moment later x.comes y.comes) ∙ ap (λ ask. meanings.Asks later ask) (one m a b x.asks y.asks)
one_meaning one m now (meanings.Asks moment a) (meanings.Told fault) x y u v = absurd (never_both m now moment a fault x y)
one_meaning one m now (meanings.Told fault) (meanings.Asks moment b) x y u v = absurd (never_both m now moment b fault y x)
one_meaning one m now (meanings.Told fault) (meanings.Told other) x y u v = ap meanings.Told (one_fault m now fault other x y)
one_meaning one m now meanings.Memory b x y u v = absurd (u refl)
one_meaning one m now a meanings.Memory x y u v = absurd (v refl)

-- ---- the rows of a file

-- what is known of files: their bytes are one list of records, which are one list of rows or have one fault
pub record FilesAreOne : Type 0 where
  pub one_list : (bytes : List ℕ) (a b : List Fields) → AreFileRecords bytes a → AreFileRecords bytes b → a ≡ b
  pub one_rows : (kind : FileKind) (records : List Fields) (a b : List Row) → AreRows kind records a → AreRows kind records b → a ≡ b
  pub one_fault : (kind : FileKind) (records : List Fields) (n m : ℕ) (c d : RowCause)
      → IsFirstFault kind records n c → IsFirstFault kind records m d → (n ≡ m) × (c ≡ d)
  pub never_both : (kind : FileKind) (records : List Fields) (rows : List Row) (n : ℕ) (c : RowCause)
      → AreRows kind records rows → ¬ FileHasFault kind records n c

one_reading : FilesAreOne → (kind : FileKind) (records : List Fields) (a b : Result (List Row) RowFault)
    → IsReading kind records a → IsReading kind records b → a ≢ Err row_faults.Memory
    → b ≢ Err row_faults.Memory → a ≡ b
one_reading are kind records (Ok r) (Ok s) x y u v = ap Ok (are.one_rows kind records r s x y)
one_reading are kind records (Ok r) (Err (row_faults.At n c)) x y u v =
    absurd (are.never_both kind records r n c x y.here)
one_reading are kind records (Ok r) (Err row_faults.Memory) x y u v = absurd (v refl)
one_reading are kind records (Err (row_faults.At n c)) (Ok s) x y u v =
    absurd (are.never_both kind records s n c y x.here)
one_reading are kind records (Err (row_faults.At n c)) (Err (row_faults.At m d)) x y u v =
    let same = are.one_fault kind records n m c d x y in
    ap (λ k. Err (row_faults.At k c)) same.0 ∙ ap (λ e. Err (row_faults.At m e)) same.1
one_reading are kind records (Err (row_faults.At n c)) (Err row_faults.Memory) x y u v =
    absurd (v refl)
one_reading are kind records (Err row_faults.Memory) b x y u v = absurd (u refl)

-- its bytes are read in one way
pub one_rows : FilesAreOne → (kind : FileKind) (csv : List ℕ) (a b : Result (List Row) RowFault) → AreRead kind csv a → AreRead kind csv b
    → a ≢ Err row_faults.Memory → b ≢ Err row_faults.Memory → a ≡ b
one_rows are kind csv a b x y u v =
    let records = are.one_list csv y.0 x.0 y.1 x.1 in
    one_reading are kind x.0 a b x.2 (subst (λ rs. IsReading kind rs b) records y.2) u v
