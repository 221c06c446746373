-- Terms are the same, marks forgotten, exactly where their texts are the same.
use Rattle.std.proofs.Common.{◌≡◌, ℕ, Bool, true, List, [], ◌∷◌, map, refl, sym, ◌∙◌, ap, subst}
use Rattle.std.specs.Prelude.{◌&&◌}
use Rattle.std.specs.Bool.{nat_eq}
use Rattle.std.specs.Cmp.Lexicographic.{pointwise, bytes_decides}
use Rattle.std.specs.Cmp.{first_so, second_so}
use Rattle.rdx_term.proofs.Bare.{tree_text-bare}
use Rattle.rdx_term.specs.Bare.{bare}
use Rattle.rdx_term.specs.Terms.{IsTerm}
use Rattle.rdx_term.specs.Text.{tree_text}
use Rattle.rdx_term.specs.Tree.{Tree}
use Rattle.rdx_sexp.proofs.Once.{reading_once}
use Rattle.rdx_sexp.proofs.PrintedTrees.{ReadsBack-term}
use Rattle.rdx_sexp.specs.Laws.{ReadsBack}
use Rattle.rdx_sexp.specs.Meaning.{meaning}
use Rattle.rdx_sexp.specs.Reads.{Reads}
use Rattle.rdx_lang.specs.Members.{In}
use Rattle.rdx_lang.proofs.MemberLaws.{in-map, map-in}
use Rattle.rdx_lang.proofs.Collecting.{In_along}
use Rattle.rdx_lang.proofs.OrderLaws.{fixed_by_members}
use Rattle.rdx_lang.specs.Bindings.{name_cmp}
use Rattle.rdx_lang.specs.Listing.{IsListing}
use Rattle.rdx_lang.specs.Model.TotalOrders.{name_cmp-total}
use Rattle.rdx_answer.specs.Inside.Comparing.{AreTerms}
use Rattle.rdx_answer.specs.Tests.{LikeOne, SameTerms}

-- terms with one text are the same
pub bare-one_text : (t u : Tree) → IsTerm t → IsTerm u → tree_text t ≡ tree_text u → bare t ≡ bare u
bare-one_text t u v w e =
    let a : ReadsBack t = ReadsBack-term t v in
    let b : ReadsBack u = ReadsBack-term u w in
    let r : Reads (tree_text u) (a.datum ∷ []) = subst (λ (x : List ℕ). Reads x (a.datum ∷ [])) e a.read in
    let d : a.datum ∷ [] ≡ b.datum ∷ [] = reading_once (tree_text u) (a.datum ∷ []) (b.datum ∷ []) r b.read in
    let f : a.datum ≡ b.datum = cc in
    let m : meaning a.datum ≡ meaning b.datum = ap meaning f in
    let g : a.term ≡ b.term = cc (a.stands, b.stands) in
    sym a.same ∙ ap bare g ∙ b.same

-- terms that are the same have one text
pub text-one_bare : (t u : Tree) → bare t ≡ bare u → tree_text t ≡ tree_text u
text-one_bare t u e = sym (tree_text-bare t) ∙ ap tree_text e ∙ tree_text-bare u

-- ---- the same terms, by their texts

-- each text of the first is one of the second
abbrev pub AreTextsOf : List Tree → List Tree → Type 0
AreTextsOf ts us = (x : List ℕ) → In x (map tree_text ts) → In x (map tree_text us)

-- so each of the first is like one of the second
like-texts : (ts us : List Tree) → AreTerms ts → AreTerms us → AreTextsOf ts us → (t : Tree) → In t ts → LikeOne us t
like-texts ts us v w f t i =
    let k : (u : Tree) × In u us × (tree_text t ≡ tree_text u) = in-map tree_text us (tree_text t) (f (tree_text t) (map-in tree_text ts t i)) in
    record { other = k.0; is_one = k.1; alike = bare-one_text k.0 t (w k.0 k.1) (v t i) (sym k.2) }

-- and the other way round
texts-like : (ts us : List Tree) → ((t : Tree) → In t ts → LikeOne us t) → AreTextsOf ts us
texts-like ts us f x i =
    let k : (t : Tree) × In t ts × (x ≡ tree_text t) = in-map tree_text ts x i in
    let l : LikeOne us k.0 = f k.0 k.1 in
    subst (λ (y : List ℕ). In y (map tree_text us)) (text-one_bare l.other k.0 l.alike ∙ sym k.2) (map-in tree_text us l.other l.is_one)

-- terms are the same, as sets, where their texts are
pub same-texts : (ts us : List Tree) → AreTerms ts → AreTerms us → AreTextsOf ts us → AreTextsOf us ts → SameTerms ts us
same-texts ts us v w f g = record { all_wanted = like-texts ts us v w f; all_found = like-texts us ts w v g }

-- and where they are the same their texts are
pub texts-same : (ts us : List Tree) → SameTerms ts us → AreTextsOf ts us × AreTextsOf us ts
texts-same ts us s = (texts-like ts us s.all_wanted, texts-like us ts s.all_found)

-- ---- texts in sets

-- texts that a test of two lists does not tell apart are the same
pub same-keys : {S : Type 0} (g : S → List ℕ) (xs ys : List S) → pointwise (λ x y. pointwise nat_eq (g x) (g y)) xs ys ≡ true → map g xs ≡ map g ys
same-keys g [] [] h = refl
same-keys g [] (y ∷ ys) h = cc
same-keys g (x ∷ xs) [] h = cc
same-keys {S} g (x ∷ xs) (y ∷ ys) h =
    let E : S → S → Bool = λ x y. pointwise nat_eq (g x) (g y) in
    let e : g x ≡ g y = (bytes_decides (g x) (g y)).0 (first_so (E x y) (pointwise E xs ys) h) in
    let d : map g xs ≡ map g ys = same-keys g xs ys (second_so (E x y) (pointwise E xs ys) h) in
    λ i. e i ∷ d i

-- and the same ones are not told apart
pub keys-same : {S : Type 0} (g : S → List ℕ) (xs ys : List S) → map g xs ≡ map g ys → pointwise (λ x y. pointwise nat_eq (g x) (g y)) xs ys ≡ true
keys-same g [] [] e = refl
keys-same g [] (y ∷ ys) e = cc
keys-same g (x ∷ xs) [] e = cc
keys-same g (x ∷ xs) (y ∷ ys) e =
    let f : pointwise nat_eq (g x) (g y) ≡ true = (bytes_decides (g x) (g y)).1 (cc) in
    let d : pointwise (λ x y. pointwise nat_eq (g x) (g y)) xs ys ≡ true = keys-same g xs ys (cc) in
    λ i. f i && d i

module _ (ts us : List Tree) (v : AreTerms ts) (w : AreTerms us) (xs ys : List (List ℕ))
    (l : IsListing name_cmp xs (λ x. In x (map tree_text ts))) (m : IsListing name_cmp ys (λ x. In x (map tree_text us))) where
  -- terms with the same texts in order are the same
  pub same-listed : xs ≡ ys → SameTerms ts us
  same-listed e = same-texts ts us v w
      (λ x i. m.sound x (In_along xs ys e (l.complete x i)))
      (λ x i. l.sound x (In_along ys xs (sym e) (m.complete x i)))

  -- and the same terms have the same texts in order
  pub listed-same : SameTerms ts us → xs ≡ ys
  listed-same s =
      let f : AreTextsOf ts us × AreTextsOf us ts = texts-same ts us s in
      fixed_by_members name_cmp name_cmp-total xs ys l.ascending m.ascending
      (λ x i. m.complete x (f.0 x (l.sound x i))) (λ x i. l.complete x (f.1 x (m.sound x i)))
