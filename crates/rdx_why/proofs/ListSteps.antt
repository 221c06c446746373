-- Steps down from list patterns: what is found of one that is opened, where its context is marked, and the use of its rule.
use Rattle.std.proofs.Common.{◌≡◌, ℕ, ◌<◌, List, [], ◌∷◌, ◌++◌, Option, Some, None, length, refl, sym, ◌∙◌, ap, subst, arith}
use Rattle.rdx_term.specs.Items.{trees_count, item_at, put_at}
use Rattle.rdx_term.specs.Tree.{Tree, list, Trees}
use Rattle.rdx_term.specs.View.{trees_of}
use Rattle.rdx_term.specs.declared.term.Term as code_term
use Rattle.rdx_term.proofs.PutItems.{trees_count-put, trees_count-trees_of, item_at-put}
use Rattle.rdx_lang.specs.Bindings.{Binding}
use Rattle.rdx_lang.specs.Names.{item_names}
use Rattle.rdx_lang.specs.PatternView.{pattern_of}
use Rattle.rdx_lang.specs.Patterns.{Pattern, seq, Items, Language}
use Rattle.rdx_lang.specs.Rules.{Match, Split}
use Rattle.rdx_lang.specs.Shown.{binding_of}
use Rattle.rdx_lang.proofs.RuleSteps.{ListParts, ListSplit, seq_inside, seq_splits}
use Rattle.rdx_lang.proofs.SplitLaws.{items-along}
use Rattle.rdx_deriv.specs.Around.{IsAround}
use Rattle.rdx_deriv.specs.Uses.{nowhere, at, ItemUses, IsMatchUse, IsSplitUse}
use Rattle.rdx_opened.specs.Opening.{Mark, Opens, opens_seq, IsOpened, AreNew, Stands}
use Rattle.rdx_opened.specs.Seeking.{IsFound, IsWanted, marks_of}
use Rattle.rdx_opened.specs.declared.seeking.Found.{Found}
use Rattle.rdx_opened.specs.declared.seeking.Wanted.{Wanted}
use Rattle.rdx_why.specs.Inside.Steps.{IsStep, AllFollowIn, goals_in}
use Rattle.rdx_why.specs.declared.step.Step.{Step}

-- ---- what is found

-- a list pattern that is opened is one of items
pub opened_items : {ps : Items} {o : Pattern} {ms : List Mark} → Opens (seq ps) o ms → (os : Items) × (o ≡ seq os)
opened_items (opens_seq {os = os} h) = (os, refl)

-- what is found of an opened list pattern: its items, and what they bind
pub record IsListFound (ps os : Items) (ms : List Mark) (R : Pattern → Binding → Type 0) (c b : Binding) : Type 0 where
  pub opens : Opens (seq ps) (seq os) ms
  pub new : AreNew (item_names ps) ms
  pub holds : R (seq os) c
  pub stands : Stands ms c b

module _ {R : Pattern → Binding → Type 0} {w : Wanted} {f : Found} {p : Pattern} {ps : Items} (e : p ≡ seq ps) (h : IsFound p R w f) where
  -- it has items
  pub found_items : (os : Items) × (pattern_of f.opened.pat ≡ seq os)
  found_items = opened_items (subst (λ (q : Pattern). Opens q (pattern_of f.opened.pat) (marks_of f.opened.marks.items)) e h.opened.opens)

  -- these are of the list pattern, and bind what stands for the binding that is wanted
  pub list_found : {os : Items} (b : Binding) → ((d : Binding) → IsWanted w d → d ≡ b) → pattern_of f.opened.pat ≡ seq os
      → IsListFound ps os (marks_of f.opened.marks.items) R (binding_of f.binding) b
  list_found {os = os} b one i =
      let ms : List Mark = marks_of f.opened.marks.items in
      let o : IsOpened (seq ps) (seq os) ms =
      subst (λ (u : Pattern). IsOpened (seq ps) u ms) i (subst (λ (q : Pattern). IsOpened q (pattern_of f.opened.pat) ms) e h.opened) in
      record {
        opens = o.opens;
        new = o.new;
        holds = subst (λ (u : Pattern). R u (binding_of f.binding)) i h.holds;
        stands = subst (λ (d : Binding). Stands ms (binding_of f.binding) d) (one h.standing.whole h.standing.holds) h.standing.stands;
      }

-- ---- contexts

module _ {L : Language} {ps : Items} {p : Pattern} (e : p ≡ seq ps) where
  -- what a list pattern matches is a list
  pub match_listed : {t : Tree} {b : Binding} → Match L p t b → (m : Option ℕ) × (ts : Trees) × (t ≡ list m ts)
  match_listed {t = t} {b = b} h =
      let i : ListParts L ps t b = seq_inside (subst (λ (q : Pattern). Match L q t b) e h) in
      (i.mark, i.items, i.same)

  module _ {t C s : Tree} {b : Binding} (h : Split L p t C s b) where
    split_parts : ListSplit L ps t C s b
    split_parts = seq_splits (subst (λ (q : Pattern). Split L q t C s b) e h)

    -- so is what it splits
    pub split_listed : (m : Option ℕ) × (ts : Trees) × (t ≡ list m ts)
    split_listed = (split_parts.mark, split_parts.items, split_parts.same)

    -- and the context
    pub context_listed : (m : Option ℕ) × (ts : Trees) × (C ≡ list m ts)
    context_listed = (Some split_parts.place, put_at split_parts.items split_parts.place split_parts.inner, split_parts.around)

    -- which is marked
    pub context_marked : {us : Trees} → C ≡ list None us → ⊥
    context_marked {us = us} f =
        let n : list None us ≡ list (Some split_parts.place) (put_at split_parts.items split_parts.place split_parts.inner) = sym f ∙ split_parts.around in
        absurd cc

    -- it is around the list, with its item at the mark in the place of the term there
    pub context_around : {m : Option ℕ} {ts us : Trees} {k : ℕ} (E : Tree) → t ≡ list m ts → C ≡ list (Some k) us
        → (k < trees_count us) × IsAround t C k ts (item_at us k E)
    context_around {m = m} {ts = ts} {us = us} {k = k} E f g =
        let i = split_parts.place in
        let D = split_parts.inner in
        let vs = split_parts.items in
        let both : list m ts ≡ list split_parts.mark vs = sym f ∙ split_parts.same in
        let items : ts ≡ vs = (cc) in
        let contexts : list (Some k) us ≡ list (Some i) (put_at vs i D) = sym g ∙ split_parts.around in
        let place : k ≡ i = (cc) in
        let put : us ≡ put_at vs i D = (cc) in
        let inside : i < trees_count vs = (items-along split_parts.split).inside in
        let within : k < trees_count ts = subst (λ (n : ℕ). n < trees_count ts) (sym place) (subst (λ (ws : Trees). i < trees_count ws) (sym items) inside) in
        let along : us ≡ put_at ts k D = put ∙ (λ j. put_at (sym items j) (sym place j) D) in
        let count : trees_count us ≡ trees_count ts = ap trees_count along ∙ trees_count-put ts k D in
        let item : item_at us k E ≡ D = ap (λ (ws : Trees). item_at ws k E) along ∙ item_at-put ts k D E within in (
          omega arith,
          record {
            mark = m;
            same = f;
            there = within;
            around = g ∙ ap (list (Some k)) (along ∙ ap (put_at ts k) (sym item));
          },
        )

    -- the same of the code's items
    pub marked_there : {m : Option ℕ} {ts : Trees} {k : ℕ} (ys : List code_term.Term) → t ≡ list m ts → C ≡ list (Some k) (trees_of ys) → k < length ys
    marked_there {k = k} ys f g =
        let n = trees_count-trees_of ys in
        let i = (context_around C f g).0 in
        omega arith

    pub marked_around : {m : Option ℕ} {ts us : Trees} {k : ℕ} (D : Tree) → t ≡ list m ts → C ≡ list (Some k) us → D ≡ item_at us k D
        → IsAround t C k ts D
    marked_around {ts = ts} {k = k} D f g i = subst (λ (E : Tree). IsAround t C k ts E) (sym i) (context_around D f g).1

-- ---- uses

module _ {L : Language} {l : List ℕ} {ps : Items} {p : Pattern} (s : Step) (e : p ≡ seq ps) (h : AllFollowIn L l (goals_in s)) where
  -- a step from a match
  pub list_match : {t : Tree} {b : Binding} {m : Option ℕ} {ts : Trees} → t ≡ list m ts → ItemUses l nowhere ps ts s.choice.items (goals_in s) b
      → IsStep L l (IsMatchUse L l p t b) s
  list_match {t = t} {b = b} {m = m} {ts = ts} f u =
      subst (λ (q : Pattern). IsStep L l (IsMatchUse L l q t b) s) (sym e)
      (record { use_of_rule = record { mark = m; items = ts; same = f; uses = u }; follow = h })

  -- and from a split
  pub list_split : {t C D z : Tree} {b : Binding} {k : ℕ} {ts : Trees} {ks : List ℕ} → IsAround t C k ts D → s.choice.items ≡ ks ++ (k ∷ [])
      → ItemUses l (at k D z) ps ts ks (goals_in s) b
      → IsStep L l (IsSplitUse L l p t C z b) s
  list_split {t = t} {C = C} {D = D} {z = z} {b = b} {k = k} {ts = ts} {ks = ks} a f u =
      subst (λ (q : Pattern). IsStep L l (IsSplitUse L l q t C z b) s) (sym e)
      (record {
        use_of_rule = record {
          mark = a.mark;
          items = ts;
          lengths = ks;
          place = k;
          inner = D;
          same = a.same;
          around = a.around;
          choice = f;
          uses = u;
        };
        follow = h;
      })
