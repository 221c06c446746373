-- Cross nonterminals that nothing speaks of change no match and no split.
use Rattle.std.proofs.Common.{◌≡◌, ℕ, true, List, [], ◌∷◌, refl, sym}
use Rattle.std.specs.Prelude.{◌↔◌}
use Rattle.rdx_lang.specs.CrossLaws.{CrossesChangeNoMatch, CrossesChangeNoSplit, CrossesChangeNoListing, CrossesChangeNoSplitsListing}
use Rattle.rdx_lang.specs.Crosses.{new_crosses, with_crosses, with_crosses_to}
use Rattle.rdx_lang.specs.Bindings.{Binding}
use Rattle.rdx_lang.specs.Listing.{IsListing, IsSeen}
use Rattle.rdx_lang.specs.Patterns.{Language}
use Rattle.rdx_lang.specs.WellFormed.{has_known_nonterminals, defined}
use Rattle.std.specs.declared.cmp.Ordering.{Ordering}
use Rattle.rdx_lang.proofs.DefinedNonterminals.{defined-more}
use Rattle.rdx_lang.proofs.FreeWithCrosses.{alternative-old, old-alternative}
use Rattle.rdx_lang.proofs.KeptRules.{Keeps, match-kept, split-kept, kept-further, kept-back}
use Rattle.rdx_lang.proofs.KnownCrosses.{KnowsAll, well_formed-knows, crosses-known}
use Rattle.rdx_lang.proofs.LanguageLiterals.{mentioned-stays}
use Rattle.rdx_lang.proofs.MemberLaws.{append-left}
use Rattle.rdx_lang.proofs.NewCrosses.{all-new}
use Rattle.rdx_lang.proofs.WellFormedCrosses.{alternative-passes, well_formed-known}

-- ---- with all to y

module _ (L : Language) (y : List ℕ) (k : KnowsAll L) where
  -- the language keeps what it had
  crosses-keep : Keeps (defined L) L (with_crosses L y)
  crosses-keep = record {
    alternative = λ x p h a. record {
      all = a.all;
      defined = append-left L.nonterminals (new_crosses L y) (x, a.all) a.defined;
      among = a.among;
    };
    known = λ x p h a. alternative-old L y k x p a;
    mentioned = mentioned-stays L y (new_crosses L y) (all-new L y);
  }

  -- and had what it has now of the nonterminals that were there
  crosses-had : Keeps (defined L) (with_crosses L y) L
  crosses-had = record {
    alternative = old-alternative L y k;
    known = λ x p h a. alternative-old L y k x p (old-alternative L y k x p h a);
    mentioned = λ s. sym (mentioned-stays L y (new_crosses L y) (all-new L y) s);
  }

-- ---- with all to any

-- a language keeps all of itself
keeps-itself : (L : Language) → KnowsAll L → Keeps (defined L) L L
keeps-itself L k = record {
  alternative = λ x p h a. a;
  known = λ x p h a. alternative-passes (has_known_nonterminals (defined L)) L x p k a;
  mentioned = λ s. refl;
}

-- with any cross nonterminals it keeps what it had
all-keep : (L : Language) (ys : List (List ℕ)) → KnowsAll L → Keeps (defined L) L (with_crosses_to L ys)
all-keep L [] k = keeps-itself L k
all-keep L (y ∷ ys) k =
    kept-further (defined L) (defined (with_crosses L y)) (defined-more L.nonterminals (new_crosses L y)) L (with_crosses L y)
    (with_crosses_to (with_crosses L y) ys) (crosses-keep L y k) (all-keep (with_crosses L y) ys (crosses-known L y k))

-- and had what it has now of the nonterminals that were there
all-had : (L : Language) (ys : List (List ℕ)) → KnowsAll L → Keeps (defined L) (with_crosses_to L ys) L
all-had L [] k = keeps-itself L k
all-had L (y ∷ ys) k =
    kept-back (defined L) (defined (with_crosses L y)) (defined-more L.nonterminals (new_crosses L y)) L (with_crosses L y)
    (with_crosses_to (with_crosses L y) ys) (all-had (with_crosses L y) ys (crosses-known L y k)) (crosses-had L y k)

-- ---- so nothing changes

-- matches stay
pub crosses_change_no_match : CrossesChangeNoMatch
crosses_change_no_match L ys p w h t b =
    let k : KnowsAll L = well_formed-knows L w in
    let n : has_known_nonterminals (defined L) p ≡ true = well_formed-known (defined L) p h in
    ((λ m. match-kept (all-keep L ys k) m n), (λ m. match-kept (all-had L ys k) m n))

-- and so do splits
pub crosses_change_no_split : CrossesChangeNoSplit
crosses_change_no_split L ys p w h t C s b =
    let k : KnowsAll L = well_formed-knows L w in
    let n : has_known_nonterminals (defined L) p ≡ true = well_formed-known (defined L) p h in
    ((λ d. split-kept (all-keep L ys k) d n), (λ d. split-kept (all-had L ys k) d n))

-- a listing of one set lists each that has the same members
listing-same : {A : Type 0} {cmp : A → A → Ordering} {xs : List A} {R Q : A → Type 0} → ((x : A) → (R x ↔ Q x)) → IsListing cmp xs R → IsListing cmp xs Q
listing-same f l = record {
  ascending = l.ascending;
  sound = λ x i. (f x).0 (l.sound x i);
  complete = λ x q. l.complete x ((f x).1 q);
}

-- the other way round
backward : {A B : Type 0} → (A ↔ B) → (B ↔ A)
backward e = (e.1, e.0)

-- what is seen of what holds alike is seen alike
seen-same : {R Q : Binding → Type 0} → ((b : Binding) → (R b ↔ Q b)) → (b : Binding) → (IsSeen R b ↔ IsSeen Q b)
seen-same f b = (
  (λ s. record { whole = s.whole; holds = (f s.whole).0 s.holds; seen = s.seen }),
  (λ s. record { whole = s.whole; holds = (f s.whole).1 s.holds; seen = s.seen }),
)

-- so the listings of matches are the same
pub crosses_change_no_listing : CrossesChangeNoListing
crosses_change_no_listing L ys p w h t bs = (
  listing-same (seen-same (crosses_change_no_match L ys p w h t)),
  listing-same (λ b. backward (seen-same (crosses_change_no_match L ys p w h t) b)),
)

-- and those of splits
pub crosses_change_no_splits_listing : CrossesChangeNoSplitsListing
crosses_change_no_splits_listing L ys p w h t ds = (
  listing-same (λ d. seen-same (crosses_change_no_split L ys p w h t d.context d.part) d.binding),
  listing-same (λ d. backward (seen-same (crosses_change_no_split L ys p w h t d.context d.part) d.binding)),
)
