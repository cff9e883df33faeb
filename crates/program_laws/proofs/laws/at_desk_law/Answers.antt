use Rattle.program_laws.proofs.DeskLemmas.{HandingLaws}
use Rattle.program_laws.proofs.AtDeskLemmas.LineLemmas.{line_answers}
use Rattle.program_laws.proofs.AtDeskLemmas.RoundLemmas.{lines_answer}
use Rattle.program_laws.proofs.AtDeskLemmas.FileLemmas.{same_found, same_health, same_reply}
use Rattle.program_laws.proofs.AtDeskLemmas.SaidLemmas.{says_askable, says_listed}
use Rattle.program_laws.proofs.AtDeskLemmas.HandedLemmas.{receipt_handed, sale_handed, sale_sold}
use Rattle.program_laws.proofs.AtDeskLemmas.ReadLemmas.{ask_read}
use Rattle.program_laws.proofs.AtDeskLemmas.ListLemmas.{list_prints, page_read}
use Rattle.program_laws.proofs.AtDeskLemmas.OneLemmas.{DeskLaws, clock_prints, one_prints}
use Rattle.program_laws.proofs.laws.at_desk_law.Goals as goal

pub returns : goal.returns
returns c =
    let office = c.office_law.ensures in
    let question = c.question_law.ensures in
    let handing : HandingLaws = record { replied = c.life_law.ensures.replied; for_good = c.life_law.ensures.for_good } in
    let laws : DeskLaws = record {
      along = office.keeps_along;
      one_step = office.keeps_office;
      plausible = c.reached_law.ensures.keeps;
      stand = office.answers_stand;
      ranges = record { greatest = c.amount_law.ensures.greatest; prior = c.store_law.ensures.prior_range; purchase = c.purchase_law.ensures.computed };
      own = c.ask_law.ensures.own;
      meaning = c.meaning_law.ensures.one;
      sent = question.sent;
      outside = question.outside;
      dates = c.date_law.ensures;
      alike = c.told_law.ensures.alike;
    } in
    record {
      askable = record { one = says_askable; pages = says_listed };
      line = record {
        one = λ ask old new came ending can held. line_answers laws ask can old new came ending held;
        pages = λ list day old new rounds told left ending can opening life tells few held given. lines_answer laws
            c.page_law.ensures.one list day old new rounds told left ending can opening life tells few held given;
      };
      printed = record { one = one_prints laws; pages = list_prints laws c.page_law.ensures.one; clock = clock_prints laws };
      read = record { one = ask_read laws; page = page_read laws };
      handed = record {
        sale = λ ask moment old new came s can is_moment opening life at is. sale_handed laws handing moment is_moment old new came opening life ask s can at is;
        sold = λ order moment old new came s can is_moment opening life at is. sale_sold laws handing moment is_moment old new came opening life order s can at is;
        receipt = λ number moment old new came text can is_moment opening life at is.
            receipt_handed laws handing moment is_moment old new came opening life number text can at is;
      };
      same = record { reply = same_reply; look_up = same_found; health = same_health };
    }
