-- Pages of a list, one more.
use Rattle.std.proofs.Common.{◌≡◌, ◌∙◌, ◌==◌, Bool, true, false, List, [], ◌∷◌, ◌++◌, length, Option, Some, None, sym, ap, append_assoc, append-nil, arith}
use Rattle.std.specs.Prelude.{if◌then◌else◌}
use Rattle.std.specs.List.{flat_map}
use Rattle.std.proofs.lemmas.Bool.{ne_eqb}
use Rattle.std.proofs.lemmas.Grind.{flat_map-append}
use Rattle.asks.specs.declared.lookup.Lookup.{Lookup}
use Rattle.book_states.specs.declared.lookup.Found.{Found}
use Rattle.desk_commands.specs.print.ListTexts.{page_text, pages_text}

-- the text of a page more
pub more_text : (json : Bool) (pages : List Found) (page : Found) → pages_text json pages ++ page_text json (length pages == 0) page
    ≡ pages_text json (pages ++ page ∷ [])
more_text json [] page = sym (append-nil (page_text json true page))
more_text json (first ∷ pages) page =
    let later : (length (first ∷ pages) == 0) ≡ false = ne_eqb (length (first ∷ pages)) 0 (λ e. omega (arith, e)) in
    let front = page_text json true first in
    let middle = flat_map (page_text json false) pages in
    ap (λ b. (front ++ middle) ++ page_text json b page) later
    ∙ append_assoc front middle (page_text json false page)
    ∙ ap (λ l. front ++ (middle ++ l)) (sym (append-nil (page_text json false page)))
    ∙ ap (λ l. front ++ l) (sym (flat_map-append (page_text json false) pages (page ∷ [])))

-- what follows a page that was taken
pub some_behind : (next : Lookup) (behind : Option Lookup) (failed : Bool) → Some next ≡ (if failed then None else behind) → behind ≡ Some next
some_behind next behind true is = absurd (cc)
some_behind next behind false is = sym is
