-- The contexts of splits are contexts.
use Rattle.std.proofs.Common.{◌≡◌, ℕ, zero, suc, ◌<◌, List, [], ◌∷◌, length, get_or, map, ap, arith}
use Rattle.rdx_term.specs.Tree.{Tree}
use Rattle.rdx_lang.specs.Decompositions.{Decomposition}
use Rattle.rdx_lang.specs.Listing.{Splits}
use Rattle.rdx_lang.specs.Members.{In, here, there}
use Rattle.rdx_lang.specs.Patterns.{Pattern, Language}
use Rattle.rdx_lang.proofs.SplitLaws.{split-fills}
use Rattle.rdx_answer.specs.Inside.Contexts.{HaveContexts}

-- those of a listing are
pub listed-contexts : (L : Language) (p : Pattern) (t : Tree) (ds : List Decomposition) → Splits L p t ds → HaveContexts ds
listed-contexts L p t ds l d i = (split-fills (l.sound d i).holds).context

-- the image of an element is a member of the images
pub member_at : {A B : Type 0} (f : A → B) (xs : List A) (i : ℕ) (x : A) → i < length xs → x ≡ get_or xs i x → In (f x) (map f xs)
member_at f [] i x h e = absurd (omega arith)
member_at f (y ∷ ys) zero x h e = here (ap f e)
member_at f (y ∷ ys) (suc i) x h e = there (member_at f ys i x (omega arith) e)
