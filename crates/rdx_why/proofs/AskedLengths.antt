-- What a matcher says of a repetition without names that is given a length name: how many terms it takes.
use Rattle.std.proofs.Common.{◌≡◌, ℕ, ◌<◌, Bool, true, false, List, [], ◌∷◌, length, Option, Some, None, refl, sym, ◌∙◌, ap, subst, inl, inr}
use Rattle.std.proofs.lemmas.Bool.{and_parts}
use Rattle.std.specs.Cmp.Lexicographic.{bytes_decides}
use Rattle.std.specs.List.{list_any}
use Rattle.std.specs.Prelude.{bytes_eq, ◌||◌, IfNone}
use Rattle.rdx_term.specs.Items.{trees_count, item_at, put_at}
use Rattle.rdx_term.specs.Tree.{Tree, list, Trees}
use Rattle.rdx_term.specs.Tree.{hole as the_hole}
use Rattle.rdx_term.proofs.PutItems.{item_at-put}
use Rattle.rdx_lang.specs.Bindings.{Value, len, Pair, Binding, visible, one_name, bound_names, HasAscendingNames, Mismatch, value_at, unlike}
use Rattle.rdx_lang.specs.Collections.{IsCollection, IsRepetition, without_length, with_length}
use Rattle.rdx_lang.specs.Decompositions.{Decomposition}
use Rattle.rdx_lang.specs.Join.{AreApart, IsJoin}
use Rattle.rdx_lang.specs.Listing.{SplitsVisibly}
use Rattle.rdx_lang.specs.Members.{In, here, there}
use Rattle.rdx_lang.specs.Names.{names, add_names, item_names}
use Rattle.rdx_lang.specs.Patterns.{Pattern, seq, Items, many, Language}
use Rattle.rdx_lang.specs.PatternView.{Slot, repeated, items_of}
use Rattle.rdx_lang.specs.Rules.{match_seq, Split, SplitItems, split_seq}
use Rattle.rdx_lang.specs.WellFormed.{has_known_nonterminals, have_known_nonterminals, defined}
use Rattle.rdx_lang.proofs.CollectionLaws.{collection-ascends}
use Rattle.rdx_lang.proofs.JoinLaws.{join_ascends, one_name-ascends, bound_names-member, agree_within}
use Rattle.rdx_lang.proofs.Joins.{join_exists}
use Rattle.rdx_lang.proofs.NameLaws.{names-ascend}
use Rattle.rdx_lang.proofs.RuleSteps.{ListSplit, list_inside, seq_splits}
use Rattle.rdx_lang.proofs.SplitLaws.{items-along}
use Rattle.rdx_lang.proofs.Values.{value_at-exact}
use Rattle.rdx_bind.proofs.NoSets.{join_plain, repetition_plain}
use Rattle.rdx_deriv.specs.Uses.{Focus, nowhere, at, uses_many}
use Rattle.rdx_deriv.specs.Around.{IsAround}
use Rattle.rdx_why.specs.Inside.Laying.{IsOpenedItems, CanBeLaid, CanTake, IsAnswered, IsWantedSplit, HasLength}
use Rattle.rdx_opened.specs.Picking.{picked, turns_in}
use Rattle.rdx_why.specs.Inside.Steps.{IsLaid}
use Rattle.rdx_why.proofs.LaidItems.{AreUsed, all_match, one_splits, opened_many, used_many, many_used, used-names, used-ascends, used-plain, run_used-names, run_used-ascends, turns_used-plain, turns-used, run_used-laid, laid-used}
use Rattle.rdx_opened.proofs.Picking.{picked-part}
use Rattle.rdx_why.proofs.TakenLengths.{IsWithin, many_apart, takes_count}

-- ---- names

-- a name that is found among none of some is none of them
pub name_apart : (y : List ℕ) (xs : List (List ℕ)) → list_any (bytes_eq y) xs ≡ false → In y xs → ⊥
name_apart y [] e h = elim h [ ]
name_apart y (x ∷ xs) e (here f) = let g : bytes_eq y x ≡ true = (bytes_decides y x).1 f in by_first (bytes_eq y x) g e
  where
    by_first : (b : Bool) → b ≡ true → (b || list_any (bytes_eq y) xs) ≡ false → ⊥
    by_first true g e = absurd cc
    by_first false g e = absurd cc
name_apart y (x ∷ xs) e (there h) = name_apart y xs (behind (bytes_eq y x) e) h
  where
    behind : (b : Bool) → (b || list_any (bytes_eq y) xs) ≡ false → list_any (bytes_eq y) xs ≡ false
    behind true e = absurd cc
    behind false e = e

-- ---- the question

-- around one item of a list there is one context at most
pub around_one : {t C D E : Tree} {k : ℕ} {ts us : Trees} → IsAround t C k ts E → IsAround t C k us D → E ≡ D
around_one {t = t} {C = C} {D = D} {E = E} {k = k} {ts = ts} {us = us} a b =
    let lists : list a.mark ts ≡ list b.mark us = sym a.same ∙ b.same in
    let same : ts ≡ us = (cc) in
    let both : list (Some k) (put_at ts k E) ≡ list (Some k) (put_at us k D) = sym a.around ∙ b.around in
    let puts : put_at ts k E ≡ put_at us k D = (cc) in
    sym (item_at-put ts k E the_hole a.there) ∙ ap (λ (ws : Trees). item_at ws k the_hole) puts ∙ item_at-put us k D the_hole b.there

-- what is found of a split at the place
pub split-used : {L : Language} {os : Items} {m : Option ℕ} {ts us : Trees} {C D s : Tree} {k : ℕ} {b : Binding} → Split L (seq os) (list m ts) C s b
    → IsAround (list m ts) C k us D → SplitItems L os ts k D s b
split-used {L = L} {os = os} {m = m} {ts = ts} {us = us} {C = C} {D = D} {s = s} {k = k} {b = b} h r =
    let p : ListSplit L os (list m ts) C s b = seq_splits h in
    let items : p.items ≡ ts = (let q = p.same in cc) in
    let same : us ≡ ts = (let q = r.same in cc) in
    let both : list (Some p.place) (put_at p.items p.place p.inner) ≡ list (Some k) (put_at us k D) = sym p.around ∙ r.around in
    let i : p.place ≡ k = (cc) in
    let puts : put_at p.items p.place p.inner ≡ put_at us k D = (cc) in
    let at_k : put_at ts k p.inner ≡ put_at ts k D =
    (λ j. put_at (sym items j) (sym i j) p.inner) ∙ puts ∙ ap (λ (ws : Trees). put_at ws k D) same in
    let there : k < trees_count ts = subst (λ (ws : Trees). k < trees_count ws) same r.there in
    let inner : p.inner ≡ D =
    sym (item_at-put ts k p.inner the_hole there) ∙ ap (λ (ws : Trees). item_at ws k the_hole) at_k ∙ item_at-put ts k D the_hole there in
    subst (λ (ws : Trees). SplitItems L os ws k D s b) items
    (subst (λ (E : Tree). SplitItems L os p.items k E s b) inner (subst (λ (j : ℕ). SplitItems L os p.items j p.inner s b) i p.split))

-- an answer is a match, or a split at the place
pub answered-used : (L : Language) (f : Focus) (os : Items) (m : Option ℕ) (ts : Trees) (e : Binding) → IsAnswered L (seq os) (list m ts) f e
    → (d : Binding) × AreUsed L f os ts d × (e ≡ visible d)
answered-used L nowhere os m ts e a = (a.whole, all_match (list_inside a.holds), a.seen)
answered-used L (at k D s) os m ts e a =
    let h : Split L (seq os) (list m ts) a.0.context s a.2.whole =
    subst (λ (u : Tree). Split L (seq os) (list m ts) a.0.context u a.2.whole) a.1.2 a.2.holds in
    (a.2.whole, one_splits (split-used h a.1.1), sym a.3 ∙ a.2.seen)

-- and the other way
pub used-answered : {L : Language} {f : Focus} {os : Items} {ts : Trees} {d : Binding} (m : Option ℕ) → AreUsed L f os ts d
    → IsAnswered L (seq os) (list m ts) f (visible d)
used-answered {d = d} m (all_match u) = record { whole = d; holds = match_seq u; seen = refl }
used-answered {d = d} m (one_splits {ts = ts} {k = k} {D = D} {s = s} u) = (
  record { context = list (Some k) (put_at ts k D); part = s; binding = visible d },
  (ts, record { mark = m; same = refl; there = (items-along u).inside; around = refl }, refl),
  record { whole = d; holds = split_seq u refl; seen = refl },
  refl,
)

-- ---- collections of no names

-- what a repetition with a length name binds
record Counted (xs : List (List ℕ)) (cs : List Binding) (y : List ℕ) (b : Binding) : Type 0 where
  pub collection : Binding
  pub collected : IsCollection xs cs collection
  pub joined : IsJoin collection (one_name y (len (length cs))) b

counted : {xs : List (List ℕ)} {cs : List Binding} {y : List ℕ} {b : Binding} → IsRepetition xs cs (Some y) b → Counted xs cs y b
counted (with_length {c = c} h j) = record { collection = c; collected = h; joined = j }

-- and one without
uncounted : {xs : List (List ℕ)} {cs : List Binding} {b : Binding} → IsRepetition xs cs None b → IsCollection xs cs b
uncounted (without_length h) = h

-- sets of a binding that has none are apart from others
none_apart : (c d : Binding) → c.differs ≡ [] → AreApart c.differs d.differs
none_apart c d e u i k = elim (subst (λ (ms : List Mismatch). In u (unlike ms)) e i) [ ]

-- what is seen of a finite map is one
visible-ascends : (b : Binding) → HasAscendingNames b → HasAscendingNames (visible b)
visible-ascends b a = (a.0, (tt, tt))

module _ (L : Language) (l : List ℕ) (c : Binding) (asc : HasAscendingNames c) (f : Focus) (q : Pattern) (rs : List Slot) (ts : Trees)
    (o : IsOpenedItems (many q None (items_of rs))) (known : have_known_nonterminals (defined L) (many q None (items_of rs)) ≡ true) (y : List ℕ)
  where
    -- what is sought of an answer
    abbrev Sought : Binding → ℕ → Type 0
    Sought e k = HasLength (picked c (item_names (many q None (items_of rs)))) (item_names (many q None (items_of rs))) y e k

    -- the length in an answer that binds the names as they are bound is one that can be taken
    pub answer_taken : (e : Binding) (k : ℕ) → AreUsed L f (many q (Some y) (items_of rs)) ts e → Sought (visible e) k
        → CanTake L l c f (repeated q None) rs ts k
    answer_taken e k u s =
        let os = items_of rs in
        let xs = item_names (many q None os) in
        let m = many_used u in
        let w = counted m.repeats in
        let cs = m.turns in
        let ae : HasAscendingNames e = used-ascends u in
        let n : In (y, len (length cs)) e.pairs = m.joined.pairs.left (y, len (length cs)) (w.joined.pairs.right (y, len (length cs)) (here refl)) in
        let v : value_at (visible e) y ≡ Some (len (length cs)) = (value_at-exact (visible e) y (len (length cs)) (visible-ascends e ae)).1 n in
        let count : length cs ≡ k = (let g = s.length in let i = ap turns_in v in cc) in
        let plain : w.collection.differs ≡ [] = repetition_plain (without_length w.collected) (turns_used-plain (opened_many o).0 m.run) in
        let ac : HasAscendingNames w.collection = collection-ascends (names q) cs w.collection (names-ascend q) w.collected in
        let ic : IsWithin w.collection e = λ p i. m.joined.pairs.left p (w.joined.pairs.left p i) in
        let id : IsWithin m.rest e = λ p i. m.joined.pairs.right p i in
        let j =
        join_exists w.collection m.rest ac (run_used-ascends m.run)
        (record { pairs = agree_within w.collection.pairs m.rest.pairs e.pairs ae.0 ic id; differs = none_apart w.collection m.rest plain }) in
        let both = and_parts (has_known_nonterminals (defined L) q) (have_known_nonterminals (defined L) os) known in
        let r = run_used-laid L l q os both.0 both.1 m.run in
        let laid : IsLaid L l f (many q None os) ts (length cs ∷ r.lengths) j.0 =
        record { goals = r.goals; uses = uses_many r.uses (without_length w.collected) j.1; follow = r.follow } in
        let used = laid-used L l laid in
        let within : IsWithin j.0 (visible e) = λ p i. elim (j.1.pairs.sound p i) [ inl a ↦ ic p a | inr a ↦ id p a ] in
        let same : picked (visible e) xs ≡ j.0 =
        picked-part (visible e) j.0 xs (visible-ascends e ae) within (used-names used) (used-plain o used) in
        let h : CanBeLaid L l c f (many q None os) ts =
        (length cs ∷ r.lengths, subst (λ (d : Binding). IsLaid L l f (many q None os) ts (length cs ∷ r.lengths) d) (sym same ∙ s.same) laid) in
        takes_count L l c asc f q None rs ts k o h (let g = (many_apart L l h.1).same in cc)

    module _ (nameless : names q ≡ []) (apart : In y (item_names (many q None (items_of rs))) → ⊥) where
      -- nothing is bound by a collection of no names
      no_pairs : (d : Binding) → bound_names d ≡ [] → (p : Pair) → In p d.pairs → ⊥
      no_pairs d e p i = elim (subst (λ (zs : List (List ℕ)). In p.0 zs) e (bound_names-member p d i)) [ ]

      -- where they can be laid there is such an answer
      pub answer_there : CanBeLaid L l c f (many q None (items_of rs)) ts
          → (e : Binding) × (k : ℕ) × AreUsed L f (many q (Some y) (items_of rs)) ts e × Sought (visible e) k
      answer_there h =
          let os = items_of rs in
          let xs = item_names (many q None os) in
          let b = picked c xs in
          let u = many_apart L l h.1 in
          let used = laid-used L l h.1 in
          let cs = u.turns in
          let run = turns-used L l u.uses u.follow in
          let col : IsCollection (names q) cs u.first = uncounted u.repeats in
          let none : (p : Pair) → In p u.first.pairs → ⊥ = no_pairs u.first (col.names ∙ nameless) in
          let plain : u.first.differs ≡ [] = repetition_plain u.repeats (turns_used-plain (opened_many o).0 run) in
          let ac : HasAscendingNames u.first = collection-ascends (names q) cs u.first (names-ascend q) col in
          let v = len (length cs) in
          let j =
          join_exists u.first (one_name y v) ac (one_name-ascends y v)
          (record { pairs = λ x a d i k. absurd (none (x, a) i); differs = none_apart u.first (one_name y v) plain }) in
          let apart_rest : (x : List ℕ) (a d : Value) → In (x, a) j.0.pairs → In (x, d) u.rest.pairs → a ≡ d =
          λ x a d i k. elim (j.1.pairs.sound (x, a) i) [
            | inl n ↦ absurd (none (x, a) n)
            | inr n ↦ absurd (apart (in_all u.rest (run_used-names run) x (one_of n) (bound_names-member (x, d) u.rest k)))
          ] in
          let g =
          join_exists j.0 u.rest (join_ascends j.1) (run_used-ascends run)
          (record { pairs = apart_rest; differs = none_apart j.0 u.rest (join_plain j.1 plain refl) }) in
          let ae : HasAscendingNames g.0 = join_ascends g.1 in
          let n : In (y, v) g.0.pairs = g.1.pairs.left (y, v) (j.1.pairs.right (y, v) (here refl)) in
          let within : IsWithin b (visible g.0) = λ p i. elim (u.joined.pairs.sound p i) [
            | inl a ↦ absurd (none p a)
            | inr a ↦ g.1.pairs.right p a
          ] in (
            g.0,
            length cs,
            used_many run (with_length col j.1) g.1,
            record {
              same = picked-part (visible g.0) b xs (visible-ascends g.0 ae) within (used-names used) (used-plain o used);
              length = ap turns_in ((value_at-exact (visible g.0) y v (visible-ascends g.0 ae)).1 n);
            },
          )
        where
          one_of : {x : List ℕ} {a w : Value} → In {A = Pair} (x, a) ((y, w) ∷ []) → x ≡ y
          one_of (here e) = ap (λ (p : Pair). p.0) e
          one_of (there i) = elim i [ ]

          in_all : (d : Binding) → bound_names d ≡ item_names (items_of rs) → (x : List ℕ) → x ≡ y → In x (bound_names d)
              → In y (item_names (many q None (items_of rs)))
          in_all d e x g i =
              subst (λ (zs : List (List ℕ)). In y (add_names zs (item_names (items_of rs)))) (sym nameless)
              (subst (λ (zs : List (List ℕ)). In y zs) e (subst (λ (z : List ℕ). In z (bound_names d)) g i))

-- ---- what is asked and found in the code

-- the question about the items from a repetition on, with what is sought of the answers
pub record IsQuestion (L : Language) (c : Binding) (q : Pattern) (rs : List Slot) (ts : Trees) (xs : List (List ℕ)) (w : Binding) (y : List ℕ)
    (p : Pattern) (t : Tree) : Type 0 where
  pub mark : Option ℕ
  pub named : xs ≡ item_names (many q None (items_of rs))
  pub wanted : w ≡ picked c xs
  pub asked : p ≡ seq (many q (Some y) (items_of rs))
  pub term : t ≡ list mark ts

-- as it is made
pub is_question : {L : Language} {c : Binding} {q : Pattern} {rs : List Slot} {ts : Trees} {xs ys : List (List ℕ)} {w : Binding} {y z : List ℕ}
    {p o r : Pattern} {t : Tree} (m : Option ℕ) → xs ≡ names o → o ≡ seq (many q None (items_of rs)) → w ≡ picked c ys → ys ≡ xs → p ≡ r
    → r ≡ seq (many q (Some z) (items_of rs)) → z ≡ y → t ≡ list m ts → IsQuestion L c q rs ts xs w y p t
is_question {c = c} {q = q} {rs = rs} m a b d e f g h k = record {
  mark = m;
  named = a ∙ ap names b;
  wanted = d ∙ ap (λ (zs : List (List ℕ)). picked c zs) e;
  asked = f ∙ g ∙ ap (λ (x : List ℕ). seq (many q (Some x) (items_of rs))) h;
  term = k;
}

-- what is wanted is what c says of the names
whole_wanted : {L : Language} {c : Binding} {q : Pattern} {rs : List Slot} {ts : Trees} {xs : List (List ℕ)} {w : Binding} {y : List ℕ} {p : Pattern}
    {t : Tree} → IsQuestion L c q rs ts xs w y p t → w ≡ picked c (item_names (many q None (items_of rs)))
whole_wanted {c = c} i = i.wanted ∙ ap (λ (zs : List (List ℕ)). picked c zs) i.named

module _ {L : Language} {c : Binding} {f : Focus} {q : Pattern} {rs : List Slot} {ts : Trees} {xs : List (List ℕ)} {w : Binding} {y : List ℕ}
    {p : Pattern}
    {t : Tree} (i : IsQuestion L c q rs ts xs w y p t) where
  -- a length that is found can be taken
  pub found_taken : (l : List ℕ) → HasAscendingNames c → IsOpenedItems (many q None (items_of rs))
      → have_known_nonterminals (defined L) (many q None (items_of rs)) ≡ true → (k : ℕ)
      → ((e : Binding) × IsAnswered L p t f e × HasLength w xs y e k)
      → CanTake L l c f (repeated q None) rs ts k
  found_taken l a o n k h =
      let os = many q (Some y) (items_of rs) in
      let m : IsAnswered L (seq os) (list i.mark ts) f h.0 =
      subst (λ (u : Tree). IsAnswered L (seq os) u f h.0) i.term (subst (λ (r : Pattern). IsAnswered L r t f h.0) i.asked h.1) in
      let d = answered-used L f os i.mark ts h.0 m in
      let zs = item_names (many q None (items_of rs)) in
      let s : HasLength (picked c zs) zs y (visible d.0) k =
      subst (λ (b : Binding). HasLength (picked c zs) zs y b k) d.2
      (subst (λ (vs : List (List ℕ)). HasLength (picked c zs) vs y h.0 k) i.named
      (subst (λ (b : Binding). HasLength b xs y h.0 k) (whole_wanted i) h.2)) in
      answer_taken L l c a f q rs ts o n y d.0 k d.1 s

  -- and there is an answer with one
  pub sought_there : (l : List ℕ) → HasAscendingNames c → IsOpenedItems (many q None (items_of rs))
      → have_known_nonterminals (defined L) (many q None (items_of rs)) ≡ true → names q ≡ [] → list_any (bytes_eq y) xs ≡ false
      → CanBeLaid L l c f (many q None (items_of rs)) ts → (e : Binding) × (k : ℕ) × IsAnswered L p t f e × HasLength w xs y e k
  sought_there l a o n z free h =
      let os = many q (Some y) (items_of rs) in
      let zs = item_names (many q None (items_of rs)) in
      let apart : In y zs → ⊥ = name_apart y zs (subst (λ (vs : List (List ℕ)). list_any (bytes_eq y) vs ≡ false) i.named free) in
      let d = answer_there L l c a f q rs ts o n y z apart h in
      let m : IsAnswered L p t f (visible d.0) =
      subst (λ (r : Pattern). IsAnswered L r t f (visible d.0)) (sym i.asked)
      (subst (λ (u : Tree). IsAnswered L (seq os) u f (visible d.0)) (sym i.term) (used-answered i.mark d.2)) in (
        visible d.0,
        d.1,
        m,
        subst (λ (b : Binding). HasLength b xs y (visible d.0) d.1) (sym (whole_wanted i))
            (subst (λ (vs : List (List ℕ)). HasLength (picked c (item_names (many q None (items_of rs)))) vs y (visible d.0) d.1) (sym i.named) d.3),
      )

-- where no split that is found is wanted, no answer is
pub none_at_place : (L : Language) (p : Pattern) (t : Tree) (k : ℕ) (D s : Tree) (f : Focus) (w : Binding) (xs : List (List ℕ)) (y : List ℕ)
    (ds : List Decomposition) (r : Option ℕ) → f ≡ at k D s
    → IfNone r ((d : Decomposition) (n : ℕ) → In d ds → IsWantedSplit t k D s d → HasLength w xs y d.binding n → ⊥)
    → ((d : Decomposition) → SplitsVisibly L p t d → In d ds) → IfNone r ((e : Binding) (n : ℕ) → IsAnswered L p t f e → HasLength w xs y e n → ⊥)
none_at_place L p t k D s f w xs y ds (Some n) e h all = tt
none_at_place L p t k D s f w xs y ds None e h all =
    subst (λ (g : Focus). (b : Binding) (n : ℕ) → IsAnswered L p t g b → HasLength w xs y b n → ⊥) (sym e)
    (λ b n a l. h a.0 n (all a.0 a.2) a.1 (subst (λ (d : Binding). HasLength w xs y d n) (sym a.3) l))
