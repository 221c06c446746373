use Rattle.std.proofs.Common.{◌≡◌, ◌++◌, ◌⊎◌, List, [], ◌∷◌, ◌∙◌, ap, sym, subst, arith}
use Rattle.std.proofs.lemmas.Grind.{common_steps}
use Rattle.std.specs.Prelude.{◌↔◌}
use Rattle.std.specs.BTreeSet.{insert_key}
use Rattle.rdx_lang.specs.Ascending.{IsAscending}
use Rattle.rdx_lang.specs.Bindings.{Binding}
use Rattle.rdx_lang.specs.Members.{In}
use Rattle.rdx_lang.specs.Order.{binding_cmp}
use Rattle.rdx_lang.specs.Model.TotalOrders.{binding_cmp-total}
use Rattle.rdx_lang.proofs.OrderLaws.{binding_cmp-tells}
use Rattle.rdx_lang.specs.Shown.{binding_of, bindings_of}
use Rattle.rdx_lang.proofs.Collecting.{listing_itself}
use Rattle.rdx_lang.proofs.Keys.{ascends-inserted, moved_members, map-inserted}
use Rattle.rdx_bind.proofs.sorting.listing.Goals as goal

pub loop-binding-preserved : goal.loop-binding-preserved
loop-binding-preserved c =
    let b : Binding = binding_of c.in-Some.binding in
    let keys : List Binding = bindings_of c.loop-binding.set.keys in
    let e : insert_key binding_cmp keys b ≡ bindings_of c.insert.new.self.keys =
    sym (ap bindings_of c.in_ok-insert.ensures.keys ∙ map-inserted binding_of binding_cmp c.loop-binding.set.keys c.in-Some.binding) in
    let f : bindings_of c.loop-binding.rest.items ≡ bindings_of c.pop.new.self.items ++ b ∷ [] = grind (arith, common_steps) in
    record {
      ascending = subst (λ (ks : List Binding). IsAscending binding_cmp ks) e (ascends-inserted binding_cmp binding_cmp-total keys b c.loop-binding.invariant.ascending);
      members = subst (λ (ks : List Binding). (z : Binding) → ((In z ks ⊎ In z (bindings_of c.pop.new.self.items)) ↔ In z (bindings_of c.args.found.items))) e
          (moved_members binding_cmp binding_cmp-total binding_cmp-tells keys (bindings_of c.loop-binding.rest.items) (bindings_of c.pop.new.self.items) (bindings_of c.args.found.items) b f c.loop-binding.invariant.members);
    }

pub returns-then-is_listed : goal.returns-then-is_listed
returns-then-is_listed c = listing_itself binding_cmp binding_of c.args.found.items (omega arith)
