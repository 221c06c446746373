-- Of terms that are alike the least is the first one with their text, in order.
use Rattle.std.proofs.Common.{◌≡◌, List, [], sym, subst}
use Rattle.rdx_term.specs.Model.TotalOrder.{tree_cmp-total}
use Rattle.rdx_term.specs.Order.{tree_cmp}
use Rattle.rdx_term.specs.Text.{tree_text}
use Rattle.rdx_term.specs.Tree.{Tree}
use Rattle.rdx_lang.specs.Bindings.{name_cmp}
use Rattle.rdx_lang.specs.Listing.{IsListing}
use Rattle.rdx_lang.specs.Members.{In}
use Rattle.rdx_lang.specs.Model.TotalOrders.{name_cmp-total}
use Rattle.rdx_lang.proofs.Collecting.{no_member}
use Rattle.rdx_lang.proofs.OrderLaws.{name_cmp-tells}
use Rattle.rdx_answer.proofs.FirstOfEach.{first_of_each, IsFirst, ascends-first, sound-first, complete-first}
use Rattle.rdx_answer.proofs.SameTexts.{bare-one_text, text-one_bare}
use Rattle.rdx_answer.specs.Inside.Comparing.{AreTerms}
use Rattle.rdx_answer.specs.Tests.{LeastLike, AreDistinct}

-- of terms in order the first of each text are the least of those that are alike
pub distinct-first : (ts all us : List Tree) → AreTerms all → IsListing tree_cmp all (λ t. In t ts)
    → us ≡ first_of_each tree_text name_cmp [] all → AreDistinct ts us
distinct-first ts all us v l e = subst (λ (ys : List Tree). AreDistinct ts ys) (sym e) (record {
  ascending = ascends-first name_cmp name_cmp-total name_cmp-tells tree_text tree_cmp tree_cmp-total [] all l.ascending;
  sound = λ t i. least t (sound-first name_cmp name_cmp-total name_cmp-tells tree_text tree_cmp tree_cmp-total [] all l.ascending t i);
  complete = λ t k. complete-first name_cmp name_cmp-total name_cmp-tells tree_text tree_cmp tree_cmp-total [] all l.ascending t (first t k);
})
  where
    least : (t : Tree) → IsFirst name_cmp name_cmp-total name_cmp-tells tree_text tree_cmp tree_cmp-total [] all t → LeastLike ts t
    least t r = record { is_one = l.sound t r.is_one; least = λ u i b. r.least u (l.complete u i) (text-one_bare u t b) }

    first : (t : Tree) → LeastLike ts t → IsFirst name_cmp name_cmp-total name_cmp-tells tree_text tree_cmp tree_cmp-total [] all t
    first t k = record {
      is_one = l.complete t k.is_one;
      is_new = λ i. no_member i;
      least = λ u i g. k.least u (l.sound u i) (bare-one_text u t (v u i) (v t (l.complete t k.is_one)) g);
    }
