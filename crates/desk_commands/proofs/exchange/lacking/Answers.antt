use Rattle.std.proofs.Common.{◌≡◌, ◌++◌, ◌⊎◌, ℕ, List, [], append-nil, arith, inl, inr, subst, sym}
use Rattle.desk_client.specs.Reply.{IsReply, IsReplyReading}
use Rattle.desk_client.specs.declared.reply.Reading.{Reading}
use Rattle.desk_client.specs.declared.reply.Reading.TheVariants as readings
use Rattle.desk_client.specs.declared.told.Told.{Told}
use Rattle.asks.specs.declared.endpoint.Grants.{Grants}
use Rattle.desk_commands.proofs.exchange.lacking.Goals as goal

-- no reply goes on behind a whole one, nor behind what is out of form
goes_no_further : ((asked : Grants) (text more : List ℕ) (told other : Told) → IsReply asked text told → IsReply asked (text ++ more) other → more ≡ [])
    → (asked : Grants) (came : List ℕ) (reading : Reading) → ((told : Told) × (reading ≡ readings.Whole told)) ⊎ (reading ≡ readings.OutOfForm)
    → IsReplyReading asked came reading
    → (more : List ℕ) (told : Told) → IsReply asked (came ++ more) told → more ≡ []
goes_no_further alone asked came reading (inl (whole, is)) reads more told reply =
    alone asked came more whole told (subst (λ (r : Reading). IsReplyReading asked came r) is reads) reply
goes_no_further alone asked came reading (inr is) reads more told reply =
    absurd ((subst (λ (r : Reading). IsReplyReading asked came r) is reads) more told reply)

-- what lacks bytes is no reply yet
lacks_bytes : (asked : Grants) (came : List ℕ) (missing : ℕ) → IsReplyReading asked came (readings.NeedBody missing)
    → (told : Told) → ¬ IsReply asked came told
lacks_bytes asked came missing reads told reply =
    let none : 0 ≡ missing = reads.1 [] told (subst (λ (text : List ℕ). IsReply asked text told) (sym (append-nil came)) reply) in
    omega (arith, none, reads.0)

pub returns-in-NeedBody-clause-more : goal.returns-in-NeedBody-clause-more
returns-in-NeedBody-clause-more c = λ some told reply.
    lacks_bytes c.args.wanted c.args.came.now c.in-NeedBody.missing c.in-NeedBody.ensures told reply

pub returns-in-Whole-clause-done : goal.returns-in-Whole-clause-done
returns-in-Whole-clause-done c = λ none more told reply.
    goes_no_further c.told_law.ensures.alone c.args.wanted c.args.came.now c.reply_in.result c.in-Whole.is c.reply_in.ensures more told reply
