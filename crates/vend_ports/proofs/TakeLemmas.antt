-- What a watched writer is given, one text behind another.
use Rattle.std.proofs.Common.{◌≡◌, ◌≢◌, ◌∙◌, ℕ, ◌+◌, ◌<◌, Bool, true, false, List, [], ◌∷◌, ◌++◌, length, get_or, map, take, drop, drop-cons, add-one, is_err, Result, Ok, Err, refl, ap, sym, subst, append_assoc, append-nil, arith}
use Rattle.std.proofs.KnownBytes.{Appends-kept, Appends-nil, Appends-trans, Keeps-refl, Keeps-trans}
use Rattle.std.proofs.Math.Seq.{take-append-add}
use Rattle.std.proofs.lemmas.List.{length-append, take-append-le}
use Rattle.std.specs.Io.KnownBytes.{Appends}
use Rattle.std.specs.List.{join_with_byte}
use Rattle.std.specs.Borrow.{Bor}
use Rattle.papers.specs.Output.{IsWritten}
use Rattle.papers.specs.declared.fault.TextFault.{TextFault}
use Rattle.papers.specs.declared.fault.TextFault.TheVariants.{Memory, Write}
use Rattle.sts_fields.specs.Text.{Text}
use Rattle.vend_ports.specs.print.Printed.{token_line}
use Rattle.vend_ports.specs.print.Sink.{Held, Sink}
use Rattle.vend_ports.specs.print.Told.{IsPutOn, IsTaken, Takes}
use Rattle.vend_ports.specs.commands.Tried.{token_lines}

-- ---- nothing, and one text more

none_taken : (failed : Bool) (held : Held) → IsTaken failed failed held held []
none_taken false held = Appends-nil held
none_taken true held = Keeps-refl held

-- a writer that is left as it was took nothing
pub takes_none : (s : Sink) → Takes s s []
takes_none s = record { same = refl; taken = none_taken s.failed s.held }

next_taken : (a b c : Bool) (old mid new : Held) (front back : Text) → IsTaken a b old mid front → IsTaken b c mid new back
    → IsTaken a c old new (front ++ back)
next_taken false false false old mid new front back p q = Appends-trans old mid new front back p q
next_taken false false true old mid new front back p (n, short, cut) = (
  length front + n,
  omega (arith, short, length-append front back),
  subst (Appends old new) (sym (take-append-add front back n)) (Appends-trans old mid new front (take n back) p cut),
)
next_taken false true true old mid new front back (n, short, cut) q = (
  n,
  omega (arith, short, length-append front back),
  subst (Appends old new) (sym (take-append-le n front back (omega (arith, short)))) (Appends-kept old mid new (take n front) cut q),
)
next_taken false true false old mid new front back p q = absurd q
next_taken true true true old mid new front back p q = Keeps-trans old mid new p q
next_taken true true false old mid new front back p q = absurd q
next_taken true false c old mid new front back p q = absurd p

-- a writer that took one text and then another took both, one behind the other
pub takes_next : (a b c : Sink) (front back : Text) → Takes a b front → Takes b c back → Takes a c (front ++ back)
takes_next a b c front back p q = record {
  same = q.same ∙ p.same;
  taken = next_taken a.failed b.failed c.failed a.held b.held c.held front back p.taken q.taken;
}

-- the same text by another name
pub takes_as : (a b : Sink) (text whole : Text) → text ≡ whole → Takes a b text → Takes a b whole
takes_as a b text whole is p = subst (Takes a b) is p

-- a further piece, with what is left behind it
pub takes_more : (a b c : Sink) (front piece back whole : Text) → Takes a b front → whole ≡ front ++ (piece ++ back) → Takes b c piece
    → Takes a c (front ++ piece) × (whole ≡ (front ++ piece) ++ back)
takes_more a b c front piece back whole p is q = (takes_next a b c front piece p q, is ∙ sym (append_assoc front piece back))

-- the last piece
pub takes_last : (a b c : Sink) (front piece whole : Text) → Takes a b front → whole ≡ front ++ piece → Takes b c piece → Takes a c whole
takes_last a b c front piece whole p is q = subst (Takes a c) (sym is) (takes_next a b c front piece p q)

-- what a writer that had not failed holds of a text that was handed to it
pub written : (r : Result Unit TextFault) (failed : Bool) (old new : Held) (text : Text) → r ≢ Err Memory → failed ≡ is_err r
    → IsWritten old new text r → IsTaken false failed old new text
written (Ok u) true old new text whole is put = cc
written (Ok u) false old new text whole is put = put
written (Err Memory) failed old new text whole is put = absurd (whole refl)
written (Err Write) true old new text whole is put = put
written (Err Write) false old new text whole is put = cc

-- ---- a text that is put once there is enough of it

-- a piece that comes behind what was put and what is not written yet
pub puts_more : (a b c : Sink) (front unwritten left piece back whole : Text) → Takes a b front → whole ≡ (front ++ unwritten)
    ++ (piece ++ back) → IsPutOn b c unwritten left piece
    → (next : Text) × Takes a c next × (whole ≡ (next ++ left) ++ back)
puts_more a b c front unwritten left piece back whole p is (written, q, apart) = (
  front ++ written,
  takes_next a b c front written p q,
  is ∙ sym (append_assoc (front ++ unwritten) piece back)
      ∙ ap (λ l. l ++ back) (append_assoc front unwritten piece ∙ ap (λ l. front ++ l) apart ∙ sym (append_assoc front written left)),
)

-- what is not written yet and a piece behind it, both put
pub puts_all : (a b c : Sink) (first piece unwritten left : Text) → first ≡ unwritten → Takes a b first → Takes b c piece → left ≡ []
    → IsPutOn a c unwritten left piece
puts_all a b c first piece unwritten left is p q none =
    (first ++ piece, takes_next a b c first piece p q, rw (none, is) (sym (append-nil (unwritten ++ piece))))

-- the last piece, and then what was not written
pub puts_last : (a b c d : Sink) (front unwritten left piece last whole : Text) → Takes a b front → whole ≡ (front ++ unwritten) ++ piece
    → IsPutOn b c unwritten left piece
    → last ≡ left → Takes c d last → Takes a d whole
puts_last a b c d front unwritten left piece last whole p is (written, q, apart) so r =
    takes_as a d ((front ++ written) ++ last) whole
    (ap (λ l. (front ++ written) ++ l) so ∙ append_assoc front written left ∙ ap (λ l. front ++ l) (sym apart)
    ∙ sym (append_assoc front unwritten piece) ∙ sym is)
    (takes_next a c d (front ++ written) last (takes_next a b c front written p q) r)

-- ---- words on a line

-- words, each behind a separator: the first one behind this, the others behind a byte
abbrev pub spaced : (byte : ℕ) → Text → List Text → Text
spaced byte separator [] = []
spaced byte separator (word ∷ words) = separator ++ (word ++ spaced byte (byte ∷ []) words)

-- words of which the first has no separator before it are joined by the byte
pub spaced-join : (byte : ℕ) (words : List Text) → spaced byte [] words ≡ join_with_byte byte words
spaced-join byte [] = refl
spaced-join byte (word ∷ []) = append-nil word
spaced-join byte (word ∷ next ∷ words) = ap (λ rest. word ++ (byte ∷ rest)) (spaced-join byte (next ∷ words))

-- the next word of a line, with what is left behind it
pub spaced-next : (byte : ℕ) (separator : Text) (words : List (Bor Text)) (i : ℕ) (d : Bor Text) (front whole end : List ℕ)
    → i < length words → whole ≡ front ++ (spaced byte separator (map (λ w. w.now) (drop i words)) ++ end)
    → whole ≡ front ++ (separator ++ ((get_or words i d).now ++ (spaced byte (byte ∷ []) (map (λ w. w.now) (drop (i + 1) words)) ++ end)))
spaced-next byte separator words i d front whole end within left =
    let word = (get_or words i d).now in
    let rest = spaced byte (byte ∷ []) (map (λ w. w.now) (drop (i + 1) words)) in
    let next : spaced byte separator (map (λ w. w.now) (drop i words)) ≡ separator ++ (word ++ rest) =
    rw add-one (ap (λ ws. spaced byte separator (map (λ w. w.now) ws)) (drop-cons words i d within)) in
    left ∙ ap (λ l. front ++ (l ++ end)) next
    ∙ ap (λ l. front ++ l) (append_assoc separator (word ++ rest) end ∙ ap (λ l. separator ++ l) (append_assoc word rest end))

-- ---- tokens

-- the line of the next token, with those behind it
pub next_token : (tokens : List Text) (i : ℕ) (d : Text) (front whole : List ℕ) → i < length tokens → whole ≡ front ++ token_lines (drop i tokens)
    → whole ≡ front ++ (token_line (get_or tokens i d) ++ token_lines (drop (i + 1) tokens))
next_token tokens i d front whole within left =
    let next : drop i tokens ≡ get_or tokens i d ∷ drop (i + 1) tokens = rw add-one (drop-cons tokens i d within) in
    left ∙ ap (λ ts. front ++ token_lines ts) next
