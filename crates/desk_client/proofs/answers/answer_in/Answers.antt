use Rattle.std.proofs.Common.{◌≡◌, subst, sym}
use Rattle.desk_client.specs.Sent.{wanted_by}
use Rattle.desk_client.proofs.AnswersLemmas.{alike_answers}
use Rattle.desk_client.proofs.answers.answer_in.Goals as goal

pub returns-in_default : goal.returns-in_default
returns-in_default c = λ told is.
    let reads = rw c.wanted_by.ensures at c.reply_in.ensures in
    let whole = c.told_law.ensures.read (wanted_by c.args.ask.now) c.args.came.now told c.reply_in.result is.reply reads in
    c.in_default.not-Whole whole.0 whole.1

pub returns-else-is_answered : goal.returns-else-is_answered
returns-else-is_answered c = λ told is.
    let reply = rw c.wanted_by.ensures at c.in-Whole.ensures in
    let same = c.told_law.ensures.alike (wanted_by c.args.ask.now) c.args.came.now told c.in-Whole.told is.reply reply in
    let yes = c.is_answered.ensures.1 (alike_answers c.args.ask.now told c.in-Whole.told same is.answers) in
    let no = c.if-is_answered.false in
    cc
