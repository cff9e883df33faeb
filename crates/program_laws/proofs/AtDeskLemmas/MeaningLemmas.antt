-- What came of a message whose meaning is known.
use Rattle.std.proofs.Common.{◌≡◌, ◌≢◌, ℕ, ℤ, List, Option, Result, inl, inr, sym, subst}
use Rattle.papers.specs.File.{AreFileRecords, Fields}
use Rattle.papers.specs.Import.{IsReading}
use Rattle.papers.specs.declared.file_kind.FileKind.{FileKind}
use Rattle.papers.specs.declared.row_fault.RowFault.{RowFault}
use Rattle.office_rules.specs.declared.office.row.Row.{Row}
use Rattle.vend_core.specs.Law.Life.{Life}
use Rattle.asks.specs.declared.ask.Ask.{Ask}
use Rattle.asks.specs.declared.ask.Ask.TheVariants.{Look}
use Rattle.asks.specs.declared.lookup.Lookup.{Lookup}
use Rattle.book_states.specs.declared.lookup.Found.{Found}
use Rattle.books.specs.Looking.{IsFoundAt}
use Rattle.office_rules.specs.declared.decision.refusal.Refusal.{Refusal}
use Rattle.conversation.specs.message.Messages.{Message}
use Rattle.desk.specs.Answering.{Comes, IsServed, life_serves}
use Rattle.desk_messages.specs.Meaning.{AreRead, IsMeaning, MessageAsks, MessageHasFault, lookup_form}
use Rattle.desk_messages.specs.declared.desk_fault.DeskFault.{DeskFault}
use Rattle.desk_messages.specs.declared.meaning.Meaning.{Meaning}
use Rattle.desk_messages.specs.declared.meaning.Meaning.TheVariants.{Asks, Told, Memory}
use Rattle.desk_messages.specs.declared.reply.outcome.Outcome.{Outcome}
use Rattle.desk_messages.specs.declared.reply.outcome.Outcome.TheVariants.{Faulty}
use Rattle.desk_messages.specs.declared.reply.outcome.Outcome.TheVariants as outcomes

-- a message has one meaning
abbrev pub MeansOne : Type 0
MeansOne = (m : Message) (now : Option ℤ) (a b : Meaning) → IsMeaning m now a → IsMeaning m now b → a ≢ Memory → b ≢ Memory → a ≡ b

asks_some : (moment : ℕ) (ask : Ask) → Asks moment ask ≢ Memory
asks_some moment ask e = absurd cc

told_some : (fault : DeskFault) → Told fault ≢ Memory
told_some fault e = absurd cc

module _ (one : MeansOne) (m : Message) (now : Option ℤ) where
  one_ask : (moment later : ℕ) (a b : Ask) → MessageAsks m now moment a → MessageAsks m now later b → (moment ≡ later) × (a ≡ b)
  one_ask moment later a b x y = let e = one m now (Asks moment a) (Asks later b) x y (asks_some moment a) (asks_some later b) in (cc, cc)

  one_fault : (a b : DeskFault) → MessageHasFault m now a → MessageHasFault m now b → a ≡ b
  one_fault a b x y = let e = one m now (Told a) (Told b) x y (told_some a) (told_some b) in cc

  -- no message asks something and has a fault
  pub never_both : (moment : ℕ) (ask : Ask) (fault : DeskFault) → MessageAsks m now moment ask → ¬ MessageHasFault m now fault
  never_both moment ask fault x y = let e = one m now (Asks moment ask) (Told fault) x y (asks_some moment ask) (told_some fault) in absurd cc

  -- one that asks something had it served, and nothing else came of it
  pub served : (moment : ℕ) (ask : Ask) → MessageAsks m now moment ask → (outcome : Outcome) (old new : Life) → Comes life_serves m now outcome old new
      → IsServed life_serves moment ask outcome old new
  served moment ask asks outcome old new (inl (fault, has, is, same)) = absurd (never_both moment ask fault asks has)
  served moment ask asks outcome old new (inr (later, another, also, serves)) =
      let same = one_ask moment later ask another asks also in
      subst (λ a. IsServed life_serves moment a outcome old new) (sym same.1)
      (subst (λ n. IsServed life_serves n another outcome old new) (sym same.0) serves)

  -- one that has a fault was told so, and the life is as it was
  pub idled : (fault : DeskFault) → MessageHasFault m now fault → (outcome : Outcome) (old new : Life) → Comes life_serves m now outcome old new
      → (outcome ≡ Faulty fault) × (new ≡ old)
  idled fault has outcome old new (inl (other, also, is, same)) =
      (subst (λ f. outcome ≡ Faulty f) (one_fault other fault also has) is, same)
  idled fault has outcome old new (inr (moment, ask, asks, serves)) = absurd (never_both moment ask fault asks has)

-- ---- the rows of a file

-- a file has some records, and reading these answers this
pub record IsRead (kind : FileKind) (csv : List ℕ) (read : Result (List Row) RowFault) : Type 0 where
  pub records : List Fields
  pub are : AreFileRecords csv records
  pub reading : IsReading kind records read

-- so of what a file reads as
pub is_read : (kind : FileKind) (csv : List ℕ) (read : Result (List Row) RowFault) → AreRead kind csv read → IsRead kind csv read
is_read kind csv read (records, are, reading) = record { records = records; are = are; reading = reading }

-- ---- what is looked up

-- a look-up that was served found this, and the life is as it was
pub looked : (lookup : Lookup) (moment : ℕ) (outcome : Outcome) (old new : Life) → IsServed life_serves moment (Look lookup) outcome old new
    → (found : Result Found Refusal) × (outcome ≡ outcomes.Found (lookup_form lookup) found) × IsFoundAt old moment lookup found × (new ≡ old)
looked lookup moment outcome old new (found, is, (finds, same)) = (found, is, finds, same)
