use Rattle.std.proofs.Common.{rules, arith, ◌≡◌, Some, length, slice_get, sym, ◌∙◌}
use Rattle.std.proofs.lemmas.Option.{slice_get_within}
use Rattle.one_table.specs.Standing.{key_of, keys_on, own_keys}
use Rattle.one_table.proofs.KeyLemmas.{left_met, left_passed, left_missed, left_ended, length-own_keys}
use Rattle.one_table.proofs.inspect.has_own_keys.Goals as goal
use Rattle.one_table.proofs.inspect.has_own_keys.Goals.{then-index-tree+else-not-is_own_key, else-index-tree}

pub returns-then-not-is_own_key : goal.returns-then-not-is_own_key
returns-then-not-is_own_key c =
    let ks = own_keys c.args.table.now in
    let missed = left_missed c.args.tree ks (keys_on c.args.schema.now c.args.tree ≡ ks) c.loop-index.next
    c.as_slice-index-items.result.now c.loop-index.index-index c.index-item.result c.loop-index-test.true
    c.index-item.is c.loop-index.invariant.left c.if-index-tree.true
    (λ same. let e = c.is_own_key.ensures.1 same in let f = c.if-not-is_own_key.true in search rules) in
    (λ h. absurd (search rules), λ h. absurd (missed h))

pub loop-index-preserved : goal.loop-index-preserved
loop-index-preserved c =
    let ks = own_keys c.args.table.now in
    let whole = keys_on c.args.schema.now c.args.tree ≡ ks in
    let items = c.as_slice-index-items.result.now in
    elim c.if-index-tree.branch [
      | then-index-tree+else-not-is_own_key w ↦
          let met : slice_get ks c.loop-index.next ≡ Some (key_of c.index-item.result) =
          w.is_own_key.ensures.0 (let e = w.if-not-is_own_key.false in search rules) in
          rw w.next-is (record {
            left = left_met c.args.tree ks whole c.loop-index.next items c.loop-index.index-index c.index-item.result
                c.loop-index-test.true c.index-item.is c.loop-index.invariant.left w.if-index-tree.true met;
            low = omega arith;
            within = omega (arith, slice_get_within ks c.loop-index.next (key_of c.index-item.result) met);
          })
      | else-index-tree w ↦ rw w.next-is (record {
        left = left_passed c.args.tree ks whole c.loop-index.next items c.loop-index.index-index c.index-item.result c.loop-index-test.true
            c.index-item.is c.loop-index.invariant.left w.if-index-tree.false;
        low = omega arith;
        within = c.loop-index.invariant.within;
      })
    ]

pub returns : goal.returns
returns c =
    let ks = own_keys c.args.table.now in
    let ended = left_ended c.args.tree ks (keys_on c.args.schema.now c.args.tree ≡ ks) c.loop-index.next c.as_slice-index-items.result.now
    c.loop-index.index-index c.loop-index-test.false
    c.loop-index.invariant.within c.loop-index.invariant.left in
    let all : c.len.result ≡ length ks = c.len.ensures ∙ sym (length-own_keys c.args.table.now) in (
      λ h. ended.0 (let e : c.loop-index.next ≡ c.len.result = search rules in e ∙ all),
      λ h. let e : c.loop-index.next ≡ c.len.result = ended.1 h ∙ sym all in search rules,
    )
