use Rattle.std.proofs.Common.{arith, refl}
use Rattle.desk_client.proofs.HeadLemmas.{head_within, reply_lengths, reply_now}
use Rattle.desk_client.proofs.reply.body_in.Goals as goal

pub returns-then-head-gt-MAX_BODY : goal.returns-then-head-gt-MAX_BODY
returns-then-head-gt-MAX_BODY c = λ dated is more told reply.
    let h = c.args.head.now in
    let lengths = reply_lengths c.args.wanted h.start h.len dated h.rest.now more told c.requires.len is reply in
    omega (arith, lengths.0, c.if-head-gt-MAX_BODY.true)

pub returns-then-have-head : goal.returns-then-have-head
returns-then-have-head c = λ dated is more told reply.
    let h = c.args.head.now in
    let lengths = reply_lengths c.args.wanted h.start h.len dated h.rest.now more told c.requires.len is reply in
    omega (arith, lengths.1, c.if-have-head.true)

pub returns-then-have-head-2 : goal.returns-then-have-head-2
returns-then-have-head-2 c = λ dated is. (
  omega (arith, c.if-have-head-2.true),
  λ more told reply.
      let h = c.args.head.now in
      let lengths = reply_lengths c.args.wanted h.start h.len dated h.rest.now more told c.requires.len is reply in
      omega (arith, lengths.1, c.if-have-head-2.true),
  let h = c.args.head.now in
      omega (
        arith,
        head_within h.start h.len dated h.rest.now (omega (arith, c.if-head-gt-MAX_BODY.false)) is,
        c.if-have-head-2.true,
        c.if-head-gt-MAX_BODY.false,
      ),
  let h = c.args.head.now in
      record {
        start = h.start;
        len = h.len;
        dated = dated;
        rest = h.rest.now;
        is_start = c.requires.start;
        is_dated = is;
        front = refl;
        lacks = omega (arith, c.if-have-head-2.true);
        few = omega (arith, c.if-head-gt-MAX_BODY.false);
      },
)

pub returns-in-None : goal.returns-in-None
returns-in-None c = λ dated is more told reply.
    let h = c.args.head.now in
    let now = reply_now c.args.wanted h.start h.len dated h.rest.now more told c.requires.len is (omega (arith, c.if-have-head.false, c.if-have-head-2.false)) reply in
    c.in-None.ensures told (reply.tellable, now.0, now.1)
