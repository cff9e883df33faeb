use Rattle.program_laws.proofs.OfferLemmas.{purchase_for}
use Rattle.program_laws.proofs.laws.offer_law.Goals as goal

pub returns : goal.returns
returns c office moment meter tender quoted is = purchase_for office moment meter tender quoted is
