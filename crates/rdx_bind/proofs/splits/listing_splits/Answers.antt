use Rattle.std.proofs.Common.{◌≡◌, ◌++◌, ◌⊎◌, List, [], ◌∷◌, ◌∙◌, ap, sym, subst, arith}
use Rattle.std.proofs.lemmas.Grind.{common_steps}
use Rattle.std.specs.Prelude.{◌↔◌}
use Rattle.std.specs.BTreeSet.{insert_key}
use Rattle.rdx_lang.specs.Ascending.{IsAscending}
use Rattle.rdx_lang.specs.Decompositions.{Decomposition}
use Rattle.rdx_lang.specs.Members.{In}
use Rattle.rdx_lang.specs.Order.{decomposition_cmp}
use Rattle.rdx_lang.specs.Model.TotalOrders.{decomposition_cmp-total}
use Rattle.rdx_lang.proofs.OrderLaws.{decomposition_cmp-tells}
use Rattle.rdx_lang.specs.Shown.{decomposition_of, decompositions_of}
use Rattle.rdx_lang.proofs.Collecting.{listing_itself}
use Rattle.rdx_lang.proofs.Keys.{ascends-inserted, moved_members, map-inserted}
use Rattle.rdx_bind.proofs.splits.listing_splits.Goals as goal

pub loop-split-preserved : goal.loop-split-preserved
loop-split-preserved c =
    let b : Decomposition = decomposition_of c.in-Some.split in
    let keys : List Decomposition = decompositions_of c.loop-split.set.keys in
    let e : insert_key decomposition_cmp keys b ≡ decompositions_of c.insert.new.self.keys =
    sym (ap decompositions_of c.in_ok-insert.ensures.keys ∙ map-inserted decomposition_of decomposition_cmp c.loop-split.set.keys c.in-Some.split) in
    let f : decompositions_of c.loop-split.rest.items ≡ decompositions_of c.pop.new.self.items ++ b ∷ [] = grind (arith, common_steps) in
    record {
      ascending = subst (λ (ks : List Decomposition). IsAscending decomposition_cmp ks) e (ascends-inserted decomposition_cmp decomposition_cmp-total keys b c.loop-split.invariant.ascending);
      members = subst (λ (ks : List Decomposition). (z : Decomposition) → ((In z ks ⊎ In z (decompositions_of c.pop.new.self.items)) ↔ In z (decompositions_of c.args.found.items))) e
          (moved_members decomposition_cmp decomposition_cmp-total decomposition_cmp-tells keys (decompositions_of c.loop-split.rest.items) (decompositions_of c.pop.new.self.items) (decompositions_of c.args.found.items) b f c.loop-split.invariant.members);
    }

pub returns-then-is_listed : goal.returns-then-is_listed
returns-then-is_listed c = listing_itself decomposition_cmp decomposition_of c.args.found.items (omega arith)
