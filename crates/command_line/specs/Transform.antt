-- The two ways of a transform that ships, and what holds of each.
use Rattle.std.specs.Prelude.{◌≡◌, ◌<◌, ◌^◌, ℕ, refl}
use Rattle.sts_token.specs.Demo.{demo_forward, demo_inverse}
use Rattle.sts_token.specs.DemoLaws.{demo_forward_range, demo_forward_undoes, demo_inverse_range}
use Rattle.sts_token.specs.DemoLaws.{demo_inverse_undoes}
use Rattle.sts_token.specs.Token.{BlockFunction}
use Rattle.sts_token.specs.declared.transform.BlockTransform.{Ghosts}
use Rattle.command_line.specs.declared.transform.Shipped.{Shipped}
use Rattle.command_line.specs.declared.transform.Shipped.TheVariants.{Plain, Demo}

abbrev pub forward_of : Shipped → BlockFunction
forward_of Plain = λ key block. block
forward_of Demo = demo_forward

abbrev pub inverse_of : Shipped → BlockFunction
inverse_of Plain = λ key block. block
inverse_of Demo = demo_inverse

-- what a transform that ships does, as a transform
abbrev pub shipped : Ghosts Shipped
shipped = record { forwards = forward_of; inverses = inverse_of }

-- each gives a block, and undoes the other
pub forward_range : (t : Shipped) (key block : ℕ) → key < 2 ^ 64 → block < 2 ^ 64
    → forward_of t key block < 2 ^ 64
forward_range Plain key block is_key is_block = is_block
forward_range Demo key block is_key is_block = demo_forward_range key block is_key is_block

pub inverse_range : (t : Shipped) (key block : ℕ) → key < 2 ^ 64 → block < 2 ^ 64
    → inverse_of t key block < 2 ^ 64
inverse_range Plain key block is_key is_block = is_block
inverse_range Demo key block is_key is_block = demo_inverse_range key block is_key is_block

pub inverse_undoes : (t : Shipped) (key block : ℕ) → key < 2 ^ 64 → block < 2 ^ 64
    → inverse_of t key (forward_of t key block) ≡ block
inverse_undoes Plain key block is_key is_block = refl
inverse_undoes Demo key block is_key is_block = demo_inverse_undoes key block is_key is_block

pub forward_undoes : (t : Shipped) (key block : ℕ) → key < 2 ^ 64 → block < 2 ^ 64
    → forward_of t key (inverse_of t key block) ≡ block
forward_undoes Plain key block is_key is_block = refl
forward_undoes Demo key block is_key is_block = demo_forward_undoes key block is_key is_block
