-- The path and the query that a target asks for.
--
-- A client names them alone (`/sales/1`), or, as to a proxy, behind a scheme and an authority
-- (`http://desk:8080/sales/1`).
use Rattle.std.specs.Prelude.{ℕ, Bool, List, [], ◌∷◌, ◌==◌, ◌&&◌, ◌||◌, length, take, drop}
use Rattle.std.specs.Prelude.{if◌then◌else◌, codes, nat_le}
use Rattle.std.specs.List.{position_or_len}
use Rattle.std.specs.Str.{str_eq_ignore_ascii_case}

-- the target begins with the scheme, in any case
abbrev pub has_scheme : List ℕ → List ℕ → Bool
has_scheme scheme target =
    nat_le (length scheme) (length target)
    && str_eq_ignore_ascii_case (take (length scheme) target) scheme

-- an authority ends before the first slash or question mark
abbrev pub ends_authority : ℕ → Bool
ends_authority byte = (byte == 47) || (byte == 63)

-- what stands behind an authority
abbrev pub behind_authority : List ℕ → List ℕ
behind_authority text = drop (position_or_len ends_authority text) text

-- what stands behind a scheme and an authority, where the target has them
unfoldable pub behind_origin : List ℕ → List ℕ
behind_origin target =
    if has_scheme (codes "http://") target then behind_authority (drop 7 target)
    else (if has_scheme (codes "https://") target then behind_authority (drop 8 target)
    else target)

-- the path and the query: what begins with a slash is that already
abbrev pub path_of : List ℕ → List ℕ
path_of [] = []
path_of (byte ∷ bytes) =
    if byte == 47 then byte ∷ bytes else behind_origin (byte ∷ bytes)
