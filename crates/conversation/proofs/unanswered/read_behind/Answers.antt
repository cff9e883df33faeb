use Rattle.std.proofs.Common.{◌≡◌, ◌∙◌, ◌+◌, ◌≤◌, min, true, not, is_ok, length, take, drop, ap, arith}
use Rattle.std.proofs.lemmas.Bool.{cond-true}
use Rattle.std.proofs.lemmas.List.{length-drop, length-take-le}
use Rattle.conversation.proofs.BufferLemmas.{read_behind, read_none}
use Rattle.conversation.proofs.UsesLemmas.{passed_by}
use Rattle.conversation.proofs.unanswered.read_behind.Goals as goal

pub returns-in-Ok : goal.returns-in-Ok
returns-in-Ok g c =
    let old = c.args.buffer.now.items in
    let mid = c.resize.new.self.items in
    let after = c.read_into.new.buffer.items in
    let filled = c.len-filled.result in
    let count = c.in-Ok.count in
    let fits : count ≤ length (drop filled after) = omega (arith, length-drop filled after, c.in-Ok.ensures.fits) in
    let ok : is_ok c.resize.result ≡ true = c.is_err.ensures.negation ∙ ap not c.if-is_err.false in
    let made = c.resize.ensures.items ∙ cond-true _ _ _ ok in
    let long : filled ≡ length old = omega (arith, c.len-filled.ensures, c.args.buffer.now.ok.0) in
    let behind = read_behind old mid after _ filled c.min-room.result long made c.in-Ok.ensures.front count in
    let all = c.resize.ensures.len ∙ cond-true _ _ _ ok in
    let room : length mid ≤ filled + c.min-room.result = omega (arith, all, c.resize.new.self.ok.0) in
    let long_enough : length mid ≡ length after = omega (arith, c.in-Ok.ensures.size, c.resize.new.self.ok.0) in
    let come = length-take-le count (drop filled after) fits in
    let came : length (take count (drop filled after)) ≤ length (drop filled mid) =
    omega (arith, come, fits, length-drop filled after, length-drop filled mid, long_enough) in
    let within : length (drop filled mid) ≤ min c.args.wanted c.args.window = omega (arith, length-drop filled mid, room, c.min-room.ensures) in
    record {
      read = (
        take count (drop filled after),
        come,
        c.truncate.ensures.items ∙ behind,
        c.in-Ok.ensures.bytes.0,
        c.in-Ok.ensures.bytes.1,
        (length (drop filled mid), within, came, c.in-Ok.ensures.told),
      );
      within = omega (arith, all, c.in-Ok.ensures.size, c.truncate.ensures.len, c.requires.room, c.min-room.ensures, long, c.args.buffer.now.ok.0);
    }

pub returns-else-is_interrupted-clause-read : goal.returns-else-is_interrupted-clause-read
returns-else-is_interrupted-clause-read g c =
    let old = c.args.buffer.now.items in
    let mid = c.resize.new.self.items in
    let after = c.read_into.new.buffer.items in
    let filled = c.len-filled.result in
    let ok : is_ok c.resize.result ≡ true = c.is_err.ensures.negation ∙ ap not c.if-is_err.false in
    let made = c.resize.ensures.items ∙ cond-true _ _ _ ok in
    let long : filled ≡ length old = omega (arith, c.len-filled.ensures, c.args.buffer.now.ok.0) in
    let all = c.resize.ensures.len ∙ cond-true _ _ _ ok in
    let room : length mid ≤ filled + c.min-room.result = omega (arith, all, c.resize.new.self.ok.0) in
    let within : length (drop filled mid) ≤ min c.args.wanted c.args.window = omega (arith, length-drop filled mid, room, c.min-room.ensures) in
    let passed = passed_by (drop filled after) c.in-Err.error c.is_interrupted.result c.is_interrupted.ensures in
    let gave = rw c.if-is_interrupted.false at passed in (
      c.in-Err.ensures.bytes,
      c.truncate-in-Err.ensures.items ∙ read_none old mid after _ filled c.min-room.result long made c.in-Err.ensures.front,
      (length (drop filled mid), within, omega arith, rw gave at c.in-Err.ensures.told),
    )

pub returns-then-is_interrupted-clause-read : goal.returns-then-is_interrupted-clause-read
returns-then-is_interrupted-clause-read g c =
    let old = c.args.buffer.now.items in
    let mid = c.resize.new.self.items in
    let after = c.read_into.new.buffer.items in
    let filled = c.len-filled.result in
    let ok : is_ok c.resize.result ≡ true = c.is_err.ensures.negation ∙ ap not c.if-is_err.false in
    let made = c.resize.ensures.items ∙ cond-true _ _ _ ok in
    let long : filled ≡ length old = omega (arith, c.len-filled.ensures, c.args.buffer.now.ok.0) in
    let all = c.resize.ensures.len ∙ cond-true _ _ _ ok in
    let room : length mid ≤ filled + c.min-room.result = omega (arith, all, c.resize.new.self.ok.0) in
    let within : length (drop filled mid) ≤ min c.args.wanted c.args.window = omega (arith, length-drop filled mid, room, c.min-room.ensures) in
    let passed = passed_by (drop filled after) c.in-Err.error c.is_interrupted.result c.is_interrupted.ensures in
    let gave = rw c.if-is_interrupted.true at passed in (
      c.in-Err.ensures.bytes,
      c.truncate-in-Err.ensures.items ∙ read_none old mid after _ filled c.min-room.result long made c.in-Err.ensures.front,
      (length (drop filled mid), within, omega arith, rw gave at c.in-Err.ensures.told),
    )
