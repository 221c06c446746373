use Rattle.std.proofs.Common.{◌<◌, ◌∙◌, subst, ℕ, length, arith}
use Rattle.rdx_lang.specs.Checked.{language_in}
use Rattle.rdx_lang.specs.Members.{In}
use Rattle.rdx_lang.specs.Patterns.{Language}
use Rattle.rdx_gen.specs.Inside.Places.{lists_of, list_at, place_of}
use Rattle.rdx_gen.proofs.UserLaws.{user-more}
use Rattle.rdx_gen.proofs.users.add_user.Goals as goal

pub loop-name-preserved : goal.loop-name-preserved
loop-name-preserved c =
    let L : Language = language_in c.args.nonterminals.now.language.now in
    let here : place_of L c.name-item.result.now < length c.args.users.now.items → In c.args.user (list_at (lists_of c.add_at.new.lists.items) (place_of L c.name-item.result.now)) =
    λ l. subst (λ (i : ℕ). In c.args.user (list_at (lists_of c.add_at.new.lists.items) i)) c.place.ensures
    (c.in_ok-add_at.ensures.here (let a = c.place.ensures in let b = c.loop-name.invariant.size in omega arith)) in
    record {
      size = c.in_ok-add_at.ensures.size ∙ c.loop-name.invariant.size;
      here = user-more L c.args.user (length c.args.users.now.items) c.loop-name.name-index c.args.names.now c.name-item.result (lists_of c.loop-name.users.items) (lists_of c.add_at.new.lists.items)
          c.loop-name-test.true c.name-item.is c.loop-name.invariant.here c.in_ok-add_at.ensures.kept here;
      kept = λ i j h. c.in_ok-add_at.ensures.kept i j (c.loop-name.invariant.kept i j h);
    }
