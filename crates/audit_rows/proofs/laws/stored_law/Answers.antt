use Rattle.audit_rows.proofs.AllStoredLemmas.{all_stored}
use Rattle.audit_rows.proofs.OnlyLemmas.{members_reordered, only_all, only_members}
use Rattle.audit_rows.proofs.laws.stored_law.Goals as goal

pub returns-clause-stands : goal.returns-clause-stands
returns-clause-stands c n db rows o known sound has tells order whole read office are empty =
    let stored = all_stored n db sound has tells order whole rows read in
    record { office = office; format = n; known = known; held = (stored.0, stored.2, members_reordered rows stored.0 o stored.1 are); empty = empty }

pub returns-clause-only : goal.returns-clause-only
returns-clause-only c n db rows o some known has read keep stands =
    let held = (c.stands_law.ensures.held db o n stands known has).0 in (
      (held.0, only_members n some db rows read keep o stands.office held.0 held.1 held.2),
      only_all n some db rows read keep o stands.office held.0 held.1 held.2,
    )
