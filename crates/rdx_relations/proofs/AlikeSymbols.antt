-- Symbols each of which has the depth that its name has first. None of them differs from another.
use Rattle.std.proofs.Common.{◌≡◌, ◌++◌, ◌∙◌, ◌⊎◌, inl, inr, ℕ, Bool, true, false, List, [], ◌∷◌, refl, sym, ap, subst, if◌then◌else◌}
use Rattle.std.proofs.lemmas.Bool.{eq-eqb, eqb-true}
use Rattle.std.proofs.lemmas.List.{append_assoc, append-nil, map-append}
use Rattle.std.specs.Cmp.Lexicographic.{bytes_decides}
use Rattle.std.specs.List.{list_any}
use Rattle.std.specs.Prelude.{◌&&◌, not, Option, Some, None, bytes_eq, nat_eq}
use Rattle.rdx_sexp.specs.Sexp.{Sexp}
use Rattle.rdx_lang.specs.Members.{In, here, there}
use Rattle.rdx_lang.proofs.MemberLaws.{in-append, append-right}
use Rattle.rdx_patterns.specs.Parts.{text_of}
use Rattle.rdx_patterns.specs.PatternChecks as patterns
use Rattle.rdx_patterns.specs.PatternChecks.{when, differ, clashes}
use Rattle.rdx_patterns.proofs.Among.{bytes_eq-sym}
use Rattle.rdx_patterns.proofs.Booleans.{or_false, or_neither}
use Rattle.rdx_patterns.proofs.Firsts.{none_first}
use Rattle.rdx_templates.specs.Bound.{Bound, depth_of}
use Rattle.rdx_templates.proofs.Depths.{depth_before, depth_behind}
use Rattle.rdx_parts.specs.StandChecks.{is_bound_as, is_other, other_depths}
use Rattle.rdx_parts.specs.Stands.{names_bound, bound_freshly}
use Rattle.rdx_parts.proofs.NamesBound.{named_at}
use Rattle.rdx_parts.proofs.RepeatedNames.{not_false}

-- each has the depth that its name has first
pub record AreAlike (bs : List patterns.Bound) : Type 0 where
  pub each : (c : patterns.Bound) → In c bs → depth_of (names_bound bs) (text_of c.symbol) ≡ Some c.depth

-- no symbols
pub alike-none : AreAlike []
alike-none = record { each = λ c i. elim i [ ] }

-- ---- symbols behind them

-- a depth that is no other one is the same, where there is one
same-depth : (n : ℕ) (o : Option ℕ) → is_other n o ≡ false → (o ≡ None) ⊎ (o ≡ Some n)
same-depth n None e = inl refl
same-depth n (Some m) e = inr (ap Some (sym (eqb-true n m (not_false (nat_eq n m) e))))

-- the depth of one name alone
one-depth : (b : patterns.Bound) → depth_of (named_at b ∷ []) (text_of b.symbol) ≡ Some b.depth
one-depth b =
    let x = text_of b.symbol in
    ap (λ (t : Bool). let o : Option ℕ = if t then Some b.depth else None in o) ((bytes_decides x x).1 refl)

-- the depth that a name has first, with one more symbol of that name behind
last-depth : (es : Bound) (b : patterns.Bound) (o : Option ℕ) → depth_of es (text_of b.symbol) ≡ o → (o ≡ None) ⊎ (o ≡ Some b.depth)
    → depth_of (es ++ named_at b ∷ []) (text_of b.symbol) ≡ Some b.depth
last-depth es b o e (inl f) = depth_behind es (named_at b ∷ []) (text_of b.symbol) (e ∙ f) ∙ one-depth b
last-depth es b o e (inr f) = depth_before es (named_at b ∷ []) (text_of b.symbol) b.depth (e ∙ f)

-- one more symbol, at no other depth than its name has first
alike-more : (bs : List patterns.Bound) (b : patterns.Bound) → AreAlike bs → is_other b.depth (depth_of (names_bound bs) (text_of b.symbol)) ≡ false → AreAlike (bs ++ b ∷ [])
alike-more bs b h e = record {
  each = λ c i.
      subst (λ (es : Bound). depth_of es (text_of c.symbol) ≡ Some c.depth) (sym (map-append named_at bs (b ∷ []))) (by_place c (in-append bs (b ∷ []) c i));
}
  where
    last : (c : patterns.Bound) → In c (b ∷ []) → depth_of (names_bound bs ++ named_at b ∷ []) (text_of c.symbol) ≡ Some c.depth
    last c (here f) =
        subst (λ (d : patterns.Bound). depth_of (names_bound bs ++ named_at b ∷ []) (text_of d.symbol) ≡ Some d.depth) (sym f)
        (last-depth (names_bound bs) b (depth_of (names_bound bs) (text_of b.symbol)) refl (same-depth b.depth (depth_of (names_bound bs) (text_of b.symbol)) e))
    last c (there i) = elim i [ ]

    by_place : (c : patterns.Bound) → In c bs ⊎ In c (b ∷ []) → depth_of (names_bound bs ++ named_at b ∷ []) (text_of c.symbol) ≡ Some c.depth
    by_place c (inl i) = depth_before (names_bound bs) (named_at b ∷ []) (text_of c.symbol) c.depth (h.each c i)
    by_place c (inr i) = last c i

-- several more, none of them at another depth
pub alike-behind : (bs cs : List patterns.Bound) → AreAlike bs → other_depths (names_bound bs) cs ≡ [] → AreAlike (bs ++ cs)
alike-behind bs [] h e = subst AreAlike (sym (append-nil bs)) h
alike-behind bs (c ∷ cs) h e =
    let k = none_first (is_other c.depth (depth_of (names_bound bs) (text_of c.symbol))) c.symbol (other_depths (names_bound bs ++ named_at c ∷ []) cs) e in
    subst AreAlike (append_assoc bs (c ∷ []) cs)
    (alike-behind (bs ++ c ∷ []) cs (alike-more bs c h k.0) (ap (λ (es : Bound). other_depths es cs) (map-append named_at bs (c ∷ [])) ∙ k.1))

-- one that is made has no depth before
not-bound : (d : Sexp) (bs : List patterns.Bound) → list_any (is_bound_as d) bs ≡ false → depth_of (names_bound bs) (text_of d) ≡ None
not-bound d [] e = refl
not-bound d (b ∷ bs) e =
    let k = or_false (is_bound_as d b) (list_any (is_bound_as d) bs) e in
    ap (λ (t : Bool). let o : Option ℕ = if t then Some b.depth else depth_of (names_bound bs) (text_of d) in o) (bytes_eq-sym (text_of b.symbol) (text_of d) ∙ k.0)
    ∙ not-bound d bs k.1

-- so it may be put behind them
pub alike-made : (bs : List patterns.Bound) (d : Sexp) → AreAlike bs → list_any (is_bound_as d) bs ≡ false → AreAlike (bs ++ bound_freshly d ∷ [])
alike-made bs d h e = alike-more bs (bound_freshly d) h (ap (is_other 0) (not-bound d bs e))

-- ---- they do not clash

module _ (all : List patterns.Bound) (h : AreAlike all) where
  -- two of them don't differ
  none-apart : (b c : patterns.Bound) → In b all → In c all → differ b c ≡ false
  none-apart b c i j = by_name (bytes_eq (text_of b.symbol) (text_of c.symbol)) refl
    where
      some_same : (m n : ℕ) → Some m ≡ Some n → m ≡ n
      some_same m n e = cc

      by_name : (t : Bool) → bytes_eq (text_of b.symbol) (text_of c.symbol) ≡ t → (t && not (nat_eq b.depth c.depth)) ≡ false
      by_name false f = refl
      by_name true f =
          let x = (bytes_decides (text_of b.symbol) (text_of c.symbol)).0 f in
          let e = sym (h.each b i) ∙ ap (depth_of (names_bound all)) x ∙ h.each c j in
          ap not (eq-eqb b.depth c.depth (some_same b.depth c.depth e))

  -- one of them differs from none of several
  none-differs : (b : patterns.Bound) (cs : List patterns.Bound) → In b all → ((c : patterns.Bound) → In c cs → In c all) → list_any (differ b) cs ≡ false
  none-differs b [] i f = refl
  none-differs b (c ∷ cs) i f =
      or_neither (differ b c) (list_any (differ b) cs) (none-apart b c i (f c (here refl))) (none-differs b cs i (λ d j. f d (there j)))

  -- and several clash with none
  none-clash : (cs bs : List patterns.Bound) → ((c : patterns.Bound) → In c cs → In c all) → ((c : patterns.Bound) → In c bs → In c all) → clashes cs bs ≡ []
  none-clash cs [] f g = refl
  none-clash cs (b ∷ bs) f g =
      let k = none-clash (b ∷ cs) bs more (λ c j. g c (there j)) in
      λ i. when (none-differs b cs (g b (here refl)) f i) b.symbol ++ k i
    where
      more : (c : patterns.Bound) → In c (b ∷ cs) → In c all
      more c (here e) = g c (here e)
      more c (there j) = f c j

-- so those behind others don't clash
pub clash-none : (bs cs : List patterns.Bound) → AreAlike (bs ++ cs) → clashes [] cs ≡ []
clash-none bs cs h = none-clash (bs ++ cs) h [] cs (λ c i. elim i [ ]) (λ c i. append-right bs cs c i)
