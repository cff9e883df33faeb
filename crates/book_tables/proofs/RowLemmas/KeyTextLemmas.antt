-- The text that is stored of a key is the key's own, and no other key's.
use Rattle.std.proofs.Common.{◌≡◌, ℕ, List, Option, Some, None, refl, sym, ◌∙◌, ap, subst}
use Rattle.std.specs.Prelude.{◌↔◌, IfSome, IsSome}
use Rattle.std.specs.Str.Parse.{digits_value}
use Rattle.sqlite.specs.declared.types.Value.{Value}
use Rattle.sqlite.specs.declared.types.Value.TheVariants.{Text}
use Rattle.sts_token.specs.Key.{AreKeyDigits, IsKeyText}
use Rattle.sts_token.proofs.KeyLemmas.{key_within, one_key_text, written_key}
use Rattle.book_tables.specs.row.ReadBack.{ReadsBack}
use Rattle.book_tables.specs.row.Rows.{secret_of}
use Rattle.book_tables.specs.row.Values.{IsKey}

-- what is stored of a key of 64 bits is a text of the key
pub stored_text : (key : ℕ) → IsKey key → IsKeyText key (secret_of key)
stored_text key small = written_key key small

-- a text of a key is what is stored of the key
pub is_stored_text : (key : ℕ) (text : List ℕ) → IsKeyText key text → secret_of key ≡ text
is_stored_text key text is = one_key_text key (secret_of key) text (stored_text key (key_within key text is)) is

-- two keys of 64 bits of which the same text is stored are the same
pub one_key : (j k : ℕ) → IsKey j → IsKey k → secret_of j ≡ secret_of k → j ≡ k
one_key j k small_j small_k same =
    sym (stored_text j small_j).number ∙ ap (digits_value 16) same ∙ (stored_text k small_k).number

none_read : (o : Option ℕ) → o ≡ None → IsSome o → ⊥
none_read o is some = let e : IsSome {T = ℕ} None = subst (λ (v : Option ℕ). IsSome v) is some in cc

-- what `read_key` says of a text that stands in a place
pub reads_key : (text : List ℕ) (place : Value) (read : Option ℕ) → Text text ≡ place → (IsSome read ↔ AreKeyDigits text)
    → IfSome read (λ key. IsKeyText key text) → ReadsBack (λ key. Text (secret_of key)) IsKey place read
reads_key text place None there digits value = λ key small same.
    let e : secret_of key ≡ text = cc in
    none_read None refl (digits.1 (subst AreKeyDigits e (stored_text key small).digits))
reads_key text place (Some key) there digits value = (ap Text (is_stored_text key text value) ∙ there, key_within key text value)
