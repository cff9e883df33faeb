-- What is told of an office without a read of the store.
use Rattle.std.specs.Prelude.{◌≡◌, ℕ, ◌-◌, Option, length, option_map, slice_get}
use Rattle.office_rules.specs.Office.{Office}
use Rattle.book_states.specs.declared.lookup.Health.{Health}

-- the moment of the office's last sale, where there is one
abbrev pub last_moment : Office → Option ℕ
last_moment o = option_map (λ s. s.moment) (slice_get o.sales (length o.sales - 1))

-- these are told of the office: how many sales it has, and the moment of the last one
pub record IsHealthOf (o : Office) (health : Health) : Type 0 where
  pub sales : health.sales ≡ length o.sales
  pub last : health.last_moment ≡ last_moment o
