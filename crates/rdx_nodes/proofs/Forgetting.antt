-- What a pattern matches and what it splits terms into, it does without names that stand once in it. Where no name is left out, it binds the
-- same.
use Rattle.std.proofs.Common.{◌≡◌, ◌++◌, ℕ, List, [], Option, Some, None, refl, sym, ◌∙◌, subst}
use Rattle.std.specs.Prelude.{◌↔◌}
use Rattle.rdx_term.specs.Tree.{Tree}
use Rattle.rdx_lang.specs.Bindings.{Binding}
use Rattle.rdx_lang.specs.Members.{In, here, there}
use Rattle.rdx_lang.specs.Patterns.{Pattern, wild, of_kind, except, prefix, hole, lit, nt, named, differ, in_hole, hide_hole, closed, seq, Items, nil, one, many, Language}
use Rattle.rdx_lang.specs.Rules.{Match, Split}
use Rattle.rdx_lang.proofs.MemberLaws.{append-left, append-right}
use Rattle.rdx_lang.proofs.RuleSteps.{SomeMatch, SomeSplit}
use Rattle.rdx_nodes.specs.Inside.Forgetting.{length_names, binders, item_binders, StandOnce, without_names, ForgetsLength, forgets_no_length, keeps_length, Forgets, ForgetsItems, forgets_wild, forgets_kind, forgets_except, forgets_prefix, forgets_hole, forgets_lit, forgets_nt, keeps_named, forgets_differ, forgets_in_hole, forgets_hide_hole, forgets_closed, forgets_seq, forgets_nil, forgets_one, forgets_many}
use Rattle.rdx_nodes.proofs.ForgettingBack.{match_back, split_back}
use Rattle.rdx_nodes.proofs.ForgettingBindings.{without_none}
use Rattle.rdx_nodes.proofs.ForgettingForth.{match_forth, split_forth}

-- of no names each stands once
pub none_once : (p : Pattern) → StandOnce [] p
none_once p x h = elim h [ ]

-- ---- a pattern in which none of the names is bound

mutual
  -- that pattern is itself without them
  pub forgets-nothing : (xs : List (List ℕ)) (p : Pattern) → ((x : List ℕ) → In x xs → In x (binders p) → ⊥) → Forgets xs p p
  forgets-nothing xs wild f = forgets_wild
  forgets-nothing xs (of_kind k) f = forgets_kind
  forgets-nothing xs (except rs) f = forgets_except
  forgets-nothing xs (prefix r) f = forgets_prefix
  forgets-nothing xs hole f = forgets_hole
  forgets-nothing xs (lit u) f = forgets_lit
  forgets-nothing xs (nt x) f = forgets_nt
  forgets-nothing xs (named x q) f = keeps_named (λ i. f x i (here refl)) (forgets-nothing xs q (λ y i k. f y i (there k)))
  forgets-nothing xs (differ x q) f = forgets_differ (forgets-nothing xs q f)
  forgets-nothing xs (in_hole q r) f =
      forgets_in_hole (forgets-nothing xs q (λ y i k. f y i (append-left (binders q) (binders r) y k)))
      (forgets-nothing xs r (λ y i k. f y i (append-right (binders q) (binders r) y k)))
  forgets-nothing xs (hide_hole q) f = forgets_hide_hole (forgets-nothing xs q f)
  forgets-nothing xs (closed q) f = forgets_closed (none_once q) (forgets-nothing [] q (λ x i k. elim i [ ]))
  forgets-nothing xs (seq ps) f = forgets_seq (forgets-no_item xs ps f)

  -- so are items
  pub forgets-no_item : (xs : List (List ℕ)) (ps : Items) → ((x : List ℕ) → In x xs → In x (item_binders ps) → ⊥) → ForgetsItems xs ps ps
  forgets-no_item xs nil f = forgets_nil
  forgets-no_item xs (one p ps) f =
      forgets_one (forgets-nothing xs p (λ y i k. f y i (append-left (binders p) (item_binders ps) y k)))
      (forgets-no_item xs ps (λ y i k. f y i (append-right (binders p) (item_binders ps) y k)))
  forgets-no_item xs (many p n ps) f =
      let g : (y : List ℕ) → In y xs → In y (binders p ++ length_names n) → ⊥ =
      λ y i k. f y i (append-left (binders p ++ length_names n) (item_binders ps) y k) in
      forgets_many (forgets-nothing xs p (λ y i k. g y i (append-left (binders p) (length_names n) y k)))
      (length_stays n (λ y i k. g y i (append-right (binders p) (length_names n) y k)))
      (forgets-no_item xs ps (λ y i k. f y i (append-right (binders p ++ length_names n) (item_binders ps) y k)))
    where
      length_stays : (m : Option (List ℕ)) → ((y : List ℕ) → In y xs → In y (length_names m) → ⊥) → ForgetsLength xs m m
      length_stays None h = forgets_no_length
      length_stays (Some x) h = keeps_length (λ i. h x i (here refl))

module _ {L : Language} where
  -- ---- without names

  -- what a pattern matches, it matches without names, and binds what stays
  pub match-forgotten : {xs : List (List ℕ)} {p q : Pattern} {t : Tree} {b : Binding} → Forgets xs p q → Match L p t b
      → Match L q t (without_names xs b)
  match-forgotten {t = t} {b = b} f h = match_forth L f t b h

  -- so it splits
  pub split-forgotten : {xs : List (List ℕ)} {p q : Pattern} {t C s : Tree} {b : Binding} → Forgets xs p q → Split L p t C s b
      → Split L q t C s (without_names xs b)
  split-forgotten {t = t} {C = C} {s = s} {b = b} f h = split_forth L f t C s b h

  -- what it matches without names that stand once, it matches, and binds these names besides
  pub match-recalled : {xs : List (List ℕ)} {p q : Pattern} {t : Tree} {c : Binding} → Forgets xs p q → StandOnce xs p → Match L q t c
      → (b : Binding) × Match L p t b × (without_names xs b ≡ c)
  match-recalled {t = t} {c = c} f o h = match_back L f o t c h

  -- so it splits
  pub split-recalled : {xs : List (List ℕ)} {p q : Pattern} {t C s : Tree} {c : Binding} → Forgets xs p q → StandOnce xs p
      → Split L q t C s c → (b : Binding) × Split L p t C s b × (without_names xs b ≡ c)
  split-recalled {t = t} {C = C} {s = s} {c = c} f o h = split_back L f o t C s c h

  -- ---- where no name is left out

  -- only closed patterns differ, and what is bound is the same
  pub match-same : {p q : Pattern} {t : Tree} {b : Binding} → Forgets [] p q → (Match L p t b ↔ Match L q t b)
  match-same {p = p} {q = q} {t = t} {b = b} f = (to, from)
    where
      to : Match L p t b → Match L q t b
      to h = subst (λ (c : Binding). Match L q t c) (without_none b) (match-forgotten f h)

      from : Match L q t b → Match L p t b
      from h = let k = match-recalled f (none_once p) h in subst (λ (c : Binding). Match L p t c) (sym (without_none k.0) ∙ k.2) k.1

  -- so for splits
  pub split-same : {p q : Pattern} {t C s : Tree} {b : Binding} → Forgets [] p q → (Split L p t C s b ↔ Split L q t C s b)
  split-same {p = p} {q = q} {t = t} {C = C} {s = s} {b = b} f = (to, from)
    where
      to : Split L p t C s b → Split L q t C s b
      to h = subst (λ (c : Binding). Split L q t C s c) (without_none b) (split-forgotten f h)

      from : Split L q t C s b → Split L p t C s b
      from h = let k = split-recalled f (none_once p) h in subst (λ (c : Binding). Split L p t C s c) (sym (without_none k.0) ∙ k.2) k.1

  -- ---- where nobody reads what is bound

  -- a pattern matches a term exactly where it does without names that stand once
  pub some_match-same : {xs : List (List ℕ)} {p q : Pattern} {t : Tree} → Forgets xs p q → StandOnce xs p → (SomeMatch L p t ↔ SomeMatch L q t)
  some_match-same {xs = xs} {p = p} {q = q} {t = t} f o = (to, from)
    where
      to : SomeMatch L p t → SomeMatch L q t
      to h = record { binding = without_names xs h.binding; matched = match-forgotten f h.matched }

      from : SomeMatch L q t → SomeMatch L p t
      from h = let k = match-recalled f o h.matched in record { binding = k.0; matched = k.1 }

  -- so it splits the term into the same contexts and parts
  pub some_split-same : {xs : List (List ℕ)} {p q : Pattern} {t C s : Tree} → Forgets xs p q → StandOnce xs p
      → (SomeSplit L p t C s ↔ SomeSplit L q t C s)
  some_split-same {xs = xs} {p = p} {q = q} {t = t} {C = C} {s = s} f o = (to, from)
    where
      to : SomeSplit L p t C s → SomeSplit L q t C s
      to h = record { binding = without_names xs h.binding; split = split-forgotten f h.split }

      from : SomeSplit L q t C s → SomeSplit L p t C s
      from h = let k = split-recalled f o h.split in record { binding = k.0; split = k.1 }
