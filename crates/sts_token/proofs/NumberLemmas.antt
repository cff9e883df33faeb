-- A block and its number correspond, and a block with a good check and its subclass and fields do.
use Rattle.std.proofs.Common.{◌≡◌, ℕ, ◌+◌, ◌*◌, ◌/◌, ◌%◌, ◌<◌, ◌^◌, refl, sym, ◌∙◌, ap, arith}
use Rattle.sts_fields.specs.Amount.{HasParts, IsCode, IsRepresentable, amount_of, code_of}
use Rattle.sts_token.specs.Block.{block_of, check_of_payload, number_of, payload_of}
use Rattle.sts_token.specs.Fields.{AreFields, TokenFields}
use Rattle.sts_token.specs.Reading.{block_numbered, class_of, fields_in}
use Rattle.sts_token.proofs.CheckLemmas.{check_of-lt}

-- ---- the number of a block
pub number_has_class_zero : (block : ℕ) → class_of (number_of block) ≡ 0
number_has_class_zero block = omega arith

-- a block is found again in its number
pub block_of_number : (block : ℕ) → block < 2 ^ 64 → block_numbered (number_of block) ≡ block
block_of_number block small = omega arith

-- a number of class 0 is that of the block that it holds
pub number_of_block : (number : ℕ) → number < 2 ^ 66 → class_of number ≡ 0
    → number_of (block_numbered number) ≡ number
number_of_block number small class_zero = omega arith

-- the block that a number holds has 64 bits
pub block_numbered-lt : (number : ℕ) → number < 2 ^ 66 → block_numbered number < 2 ^ 64
block_numbered-lt number small = omega arith

-- two blocks have two numbers
pub number_once : (a b : ℕ) → a < 2 ^ 64 → b < 2 ^ 64 → number_of a ≡ number_of b → a ≡ b
number_once a b small small_too same =
    sym (block_of_number a small) ∙ ap block_numbered same ∙ block_of_number b small_too

-- ---- the parts of a block
-- what the crate of the amounts promises of their codes
pub record AmountLaw : Type 0 where
  pub each_amount : (t : ℕ) → IsRepresentable t → IsCode t (code_of t)
  pub each_code : (c : ℕ) → c < 2 ^ 16 → IsCode (amount_of (c / 2 ^ 14) (c % 2 ^ 14)) c
  pub one_code : (t c d : ℕ) → IsCode t c → IsCode t d → c ≡ d

-- a code has sixteen bits, and gives its amount back
record GivesBack (tenths code : ℕ) : Type 0 where
  bits : code < 2 ^ 16
  gives : amount_of (code / 2 ^ 14) (code % 2 ^ 14) ≡ tenths

code_gives : (t c : ℕ) → IsCode t c → GivesBack t c
code_gives t c (exponent, mantissa, parts, code) =
    let small = parts.exponent in
    let below = parts.mantissa in
    let high : c / 2 ^ 14 ≡ exponent = omega arith in
    let low : c % 2 ^ 14 ≡ mantissa = omega arith in
    record {
      bits = omega arith;
      gives =
          ap (λ (e : ℕ). amount_of e (c % 2 ^ 14)) high ∙ ap (amount_of exponent) low ∙ parts.gives;
    }

amount_parts : (code : ℕ) → code < 2 ^ 16
    → HasParts (amount_of (code / 2 ^ 14) (code % 2 ^ 14)) (code / 2 ^ 14) (code % 2 ^ 14)
amount_parts code small = record { exponent = omega arith; mantissa = omega arith; gives = refl }

code_of_amount : AmountLaw → (code : ℕ) → code < 2 ^ 16
    → code_of (amount_of (code / 2 ^ 14) (code % 2 ^ 14)) ≡ code
code_of_amount amounts code small =
    amounts.one_code _ _ code (amounts.each_amount _ (_, _, amount_parts code small))
    (amounts.each_code code small)

-- what stands where in the block of a subclass and fields
pub record HasBits (block subclass : ℕ) (f : TokenFields) : Type 0 where
  pub bits : block < 2 ^ 64
  pub subclass_bits : block / 2 ^ 60 ≡ subclass
  pub fields : fields_in block ≡ f
  pub check : block % 2 ^ 16 ≡ check_of_payload (block / 2 ^ 16)

same_fields : (f : TokenFields) (rnd tid tenths : ℕ) → rnd ≡ f.rnd → tid ≡ f.tid → tenths ≡ f.tenths
    → record { rnd = rnd; tid = tid; tenths = tenths } ≡ f
same_fields f rnd tid tenths a b c =
    let made : ℕ → ℕ → ℕ → TokenFields = λ r t n. record { rnd = r; tid = t; tenths = n } in
    ap (λ (r : ℕ). made r tid tenths) a ∙ ap (λ (t : ℕ). made f.rnd t tenths) b
    ∙ ap (made f.rnd f.tid) c

bits_of_parts : (b s r t c k : ℕ) → b ≡ (s * 2 ^ 44 + r * 2 ^ 40 + t * 2 ^ 16 + c) * 2 ^ 16 + k
    → s < 2 ^ 4 → r < 2 ^ 4 → t < 2 ^ 24 → c < 2 ^ 16 → k < 2 ^ 16
    → (b < 2 ^ 64) × (b / 2 ^ 60 ≡ s) × (b / 2 ^ 56 % 2 ^ 4 ≡ r) × (b / 2 ^ 32 % 2 ^ 24 ≡ t)
    × (b / 2 ^ 16 % 2 ^ 16 ≡ c) × (b % 2 ^ 16 ≡ k)
bits_of_parts b s r t c k e s4 r4 t24 c16 k16 =
    (omega arith, omega arith, omega arith, omega arith, omega arith, omega arith)

-- in the block of a subclass and fields each part stands at its place, with a good check
pub block_has_bits : AmountLaw → (subclass : ℕ) (f : TokenFields) → subclass < 2 ^ 4 → AreFields f
    → HasBits (block_of subclass f) subclass f
block_has_bits amounts subclass f small fields =
    let code =
    code_gives f.tenths (code_of f.tenths) (amounts.each_amount f.tenths fields.tenths) in
    let check16 = check_of-lt _ in
    let parts = bits_of_parts (block_of subclass f) subclass f.rnd f.tid (code_of f.tenths) (check_of_payload (payload_of subclass f)) refl
    small fields.rnd fields.tid code.bits check16 in
    let payload : block_of subclass f / 2 ^ 16 ≡ payload_of subclass f = omega (arith, check16) in
    record {
      bits = parts.0;
      subclass_bits = parts.1;
      fields = same_fields f _ _ _ parts.2 parts.3
          (ap (λ (c : ℕ). amount_of (c / 2 ^ 14) (c % 2 ^ 14)) parts.4 ∙ code.gives);
      check = parts.5 ∙ ap check_of_payload (sym payload);
    }

-- what stands in the fields of a block keeps their bounds
pub fields_in_are : (block : ℕ) → AreFields (fields_in block)
fields_in_are block =
    record {
      rnd = omega arith;
      tid = omega arith;
      tenths = (_, _, amount_parts (block / 2 ^ 16 % 2 ^ 16) (omega arith));
    }

-- a block with a good check is the one that its own subclass and fields make
pub block_from_check : AmountLaw → (block : ℕ) → block < 2 ^ 64 → block % 2 ^ 16
    ≡ check_of_payload (block / 2 ^ 16) → block ≡ block_of (block / 2 ^ 60) (fields_in block)
block_from_check amounts block small check =
    let code = code_of_amount amounts (block / 2 ^ 16 % 2 ^ 16) (omega arith) in
    let payload : payload_of (block / 2 ^ 60) (fields_in block) ≡ block / 2 ^ 16 =
    omega (arith, code) in
    let good : check_of_payload (payload_of (block / 2 ^ 60) (fields_in block)) ≡ block % 2 ^ 16 =
    ap check_of_payload payload ∙ sym check in
    omega (arith, payload, good)
