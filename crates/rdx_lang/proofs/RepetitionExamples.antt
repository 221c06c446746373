-- The worked examples of repetitions hold.
use Rattle.std.proofs.Common.{◌≡◌, ℕ, Option, Some, None, List, [], ◌∷◌, ◌++◌, map, length, refl, sym, ◌∙◌, ap, subst, ◌⊎◌, inl, inr, codes}
use Rattle.std.specs.declared.cmp.Ordering.TheVariants.{Less}
use Rattle.rdx_term.specs.Tree.{Tree, list, cons, trees}
use Rattle.rdx_term.specs.Tree.{nil as no_trees}
use Rattle.rdx_term.specs.Tree.{hole as the_hole}
use Rattle.rdx_lang.specs.Bindings.{Value, len, values, Pair, Binding, of_pairs, no_names, one_name, name_cmp, HaveAscendingNames, HasAscendingNames}
use Rattle.rdx_lang.specs.Bindings.{one as one_term}
use Rattle.rdx_lang.specs.Collections.{AreValuesOf, of_none, of_more, IsSequenceOf, AreSetsOf, sets_of_none, sets_of_more, IsCollection, IsRepetition, without_length, with_length}
use Rattle.rdx_lang.specs.Examples.{int, list_of_one, list_of_two, marked_first, marked_second, first_marked, second_marked, any, Numbers, Contexts}
use Rattle.rdx_lang.specs.Join.{IsJoin}
use Rattle.rdx_lang.specs.Members.{In, here, there}
use Rattle.rdx_lang.specs.Patterns.{Pattern, hole, named, Items, nil, Language}
use Rattle.rdx_lang.specs.Patterns.{many as repeated}
use Rattle.rdx_lang.specs.RepetitionExamples.{empty_list, seq_of_any, seq_of_both, any_1, any_2, in_turns, both_bound, EachDivision, NoTurn, EqualLengths, EqualSequences, SequenceOfSequences, OneTurnSplits}
use Rattle.rdx_lang.specs.Rules.{Match, MatchItems, MatchRun, match_kind, match_hole, match_named, match_seq, match_none, match_many, run_end, run_more}
use Rattle.rdx_lang.specs.Rules.{Split, split_hole, split_seq, split_many, run_here, run_there, run_behind}
use Rattle.rdx_lang.proofs.CollectionLaws.{AreMaps, repetition-ascends, one_repetition}
use Rattle.rdx_lang.proofs.Examples.{HoldsOfAll, of_member, listed, one_alone, no_member, apart, two_values, two_pairs, joined_by, named_kind_binds, AtOneHole, first_hole, second_hole, at_either_item, is_either}
use Rattle.rdx_lang.proofs.JoinLaws.{one_join, join_agrees, turned_join, unit_left, unit_right, unit_right-only, joined_itself, none_left, none_left-only, one_right-only, one_itself-only}
use Rattle.rdx_lang.proofs.MemberLaws.{in-map, map-in}
use Rattle.rdx_lang.proofs.SeenListings.{matches_listed, splits_listed}
use Rattle.rdx_lang.proofs.SetJoins.{no_sets_left}
use Rattle.rdx_lang.proofs.RuleSteps.{list_inside, many_inside, hole_inside, hole_splits}

-- ---- what a repetition binds whose turns bind one name

-- the name stands for each of these values in its turn
abbrev each : List ℕ → List Value → List Binding
each x vs = map (one_name x) vs

-- a binding of one name is a finite map
each_map : (x : List ℕ) (vs : List Value) → AreMaps (each x vs)
each_map x vs b i = let k = in-map (one_name x) vs b i in subst HasAscendingNames (sym k.2) ((tt, tt), (tt, tt))

-- the values are in their order
each_value : (x : List ℕ) (vs : List Value) → AreValuesOf x (each x vs) (values vs)
each_value x [] = of_none
each_value x (v ∷ vs) = of_more (here refl) (each_value x vs)

-- and there are no sets
each_sets : (x : List ℕ) (vs : List Value) → AreSetsOf (each x vs) []
each_sets x [] = sets_of_none
each_sets x (v ∷ vs) = sets_of_more (each_sets x vs) (no_sets_left [] (tt, tt))

-- the name stands for their sequence
each_collected : (x : List ℕ) (vs : List Value) → IsCollection (x ∷ []) (each x vs) (one_name x (in_turns vs))
each_collected x vs = record { names = refl; sequences = sequences; differs = each_sets x vs }
  where
    sequences : (y : List ℕ) (v : Value) → In {A = Pair} (y, v) ((x, in_turns vs) ∷ []) → IsSequenceOf y (each x vs) v
    sequences y v (here e) = record {
      sequence = values vs;
      same = ap (λ (p : Pair). p.1) e;
      values = subst (λ (z : List ℕ). AreValuesOf z (each x vs) (values vs)) (sym (ap (λ (p : Pair). p.0) e)) (each_value x vs);
    }
    sequences y v (there i) = elim i [ ]

repeats : (x : List ℕ) (vs : List Value) → IsRepetition (x ∷ []) (each x vs) None (one_name x (in_turns vs))
repeats x vs = without_length (each_collected x vs)

-- f is what a repetition binds whose turns bind the name to these values, and nothing else is
abbrev BindsAlone : List ℕ → Option (List ℕ) → (List Value → Binding) → Type 0
BindsAlone x n f = (vs : List Value) (c : Binding) → IsRepetition (x ∷ []) (each x vs) n c → c ≡ f vs

-- so it is without a length name
repeats-only : (x : List ℕ) → BindsAlone x None (λ vs. one_name x (in_turns vs))
repeats-only x vs c r = one_repetition (tt, tt) (each_map x vs) r (repeats x vs)

-- with a length name that comes first
abbrev counted : List ℕ → List ℕ → List Value → Binding
counted n x vs = of_pairs ((n, len (length (each x vs))) ∷ (x, in_turns vs) ∷ [])

counts : (n x : List ℕ) (vs : List Value) → name_cmp n x ≡ Less → IsRepetition (x ∷ []) (each x vs) (Some n) (counted n x vs)
counts n x vs l =
    let number : Value = len (length (each x vs)) in
    let joined : IsJoin (one_name n number) (one_name x (in_turns vs)) (counted n x vs) = two_pairs (n, number) (x, in_turns vs) l in
    with_length (each_collected x vs) (turned_join (one_name n number) (one_name x (in_turns vs)) (counted n x vs) joined)

counts-only : (n x : List ℕ) → name_cmp n x ≡ Less → BindsAlone x (Some n) (counted n x)
counts-only n x l vs c r = one_repetition (tt, tt) (each_map x vs) r (counts n x vs l)

-- ---- a repetition of `any` with a name

-- the same terms, as values
abbrev terms : List Tree → List Value
terms ts = map one_term ts

-- the ways to divide a list into the first members and the others
abbrev Cut : Type 0
Cut = List Tree × List Tree

abbrev cuts : List Tree → List Cut
cuts [] = ([], []) ∷ []
cuts (t ∷ ts) = ([], t ∷ ts) ∷ map (λ c. (t ∷ c.0, c.1)) (cuts ts)

-- a run of a repetition of `any` with the name x takes the first terms, and leaves the others to the items behind it
record Taken (L : Language) (x : List ℕ) (ps : Items) (ts : List Tree) (cs : List Binding) (d : Binding) : Type 0 where
  pub cut : Cut
  pub among : In cut (cuts ts)
  pub turns : cs ≡ each x (terms cut.0)
  pub matched : MatchItems L ps (trees cut.1) d

module _ {L : Language} {x : List ℕ} where
  -- each such run does
  taken : {ps : Items} (ts : List Tree) {cs : List Binding} {d : Binding} → MatchRun L (named x any) ps (trees ts) cs d
      → Taken L x ps ts cs d
  taken [] (run_end h) = record { cut = ([], []); among = here refl; turns = refl; matched = h }
  taken (t ∷ ts) (run_end h) = record { cut = ([], t ∷ ts); among = here refl; turns = refl; matched = h }
  taken (t ∷ ts) (run_more h r) =
      let k = taken ts r in
      record {
        cut = (t ∷ k.cut.0, k.cut.1);
        among = there (map-in (λ (c : Cut). (t ∷ c.0, c.1)) (cuts ts) k.cut k.among);
        turns = λ i. named_kind_binds h i ∷ k.turns i;
        matched = k.matched;
      }

  -- `any` with a name matches each term
  named_any : (t : Tree) → Match L (named x any) t (one_name x (one_term t))
  named_any t = match_named (match_kind refl) (unit_left (one_name x (one_term t)) ((tt, tt), (tt, tt)))

  -- and each way to take some is such a run
  run_of : {ps : Items} (us vs : List Tree) {d : Binding} → MatchItems L ps (trees vs) d
      → MatchRun L (named x any) ps (trees (us ++ vs)) (each x (terms us)) d
  run_of [] vs h = run_end h
  run_of (u ∷ us) vs h = run_more (named_any u) (run_of us vs h)

  -- with no items behind it, it takes all
  takes_all : (ts : List Tree) {cs : List Binding} {d : Binding} → MatchRun L (named x any) nil (trees ts) cs d
      → (cs ≡ each x (terms ts)) × (d ≡ no_names)
  takes_all [] (run_end match_none) = (refl, refl)
  takes_all (t ∷ ts) (run_end h) = elim h [ ]
  takes_all (t ∷ ts) (run_more h r) = let k = takes_all ts r in ((λ i. named_kind_binds h i ∷ k.0 i), k.1)

  run_of_all : (ts : List Tree) → MatchRun L (named x any) nil (trees ts) (each x (terms ts)) no_names
  run_of_all [] = run_end match_none
  run_of_all (t ∷ ts) = run_more (named_any t) (run_of_all ts)

  -- so the last item of a list, a repetition, binds what it binds for all terms
  last_binds : {n : Option (List ℕ)} (ts : List Tree) {b : Binding} → MatchItems L (repeated (named x any) n nil) (trees ts) b
      → IsRepetition (x ∷ []) (each x (terms ts)) n b
  last_binds {n = n} ts {b} h =
      let k = many_inside h in
      let a = takes_all ts k.run in
      let none : IsJoin k.first no_names b = subst (λ (d : Binding). IsJoin k.first d b) a.1 k.joined in
      let same : b ≡ k.first = unit_right-only (repetition-ascends (tt, tt) k.repeats) none in
      let repeats : IsRepetition (x ∷ []) (each x (terms ts)) n k.first = subst (λ (cs : List Binding). IsRepetition (x ∷ []) cs n k.first) a.0 k.repeats in
      subst (λ (c : Binding). IsRepetition (x ∷ []) (each x (terms ts)) n c) (sym same) repeats

  last_item : {n : Option (List ℕ)} (ts : List Tree) {b : Binding} → IsRepetition (x ∷ []) (each x (terms ts)) n b
      → MatchItems L (repeated (named x any) n nil) (trees ts) b
  last_item ts {b} r = match_many (run_of_all ts) r (unit_right b (repetition-ascends (tt, tt) r))

  -- a list pattern of this repetition alone
  list_binds : (ts : List Tree) {m : Option ℕ} {c : Binding} → Match L (seq_of_any (named x any) None) (list m (trees ts)) c
      → c ≡ one_name x (in_turns (terms ts))
  list_binds ts {c = c} h = repeats-only x (terms ts) c (last_binds ts (list_inside h))

  list_of_any : (ts : List Tree) {m : Option ℕ}
      → Match L (seq_of_any (named x any) None) (list m (trees ts)) (one_name x (in_turns (terms ts)))
  list_of_any ts = match_seq (last_item ts (repeats x (terms ts)))

-- ---- two such repetitions

-- what the one binds for some first terms, f, joined with what the other binds for those behind them, g, is b
record Divided (f g : List Value → Binding) (ts : List Tree) (b : Binding) : Type 0 where
  pub cut : Cut
  pub among : In cut (cuts ts)
  pub joined : IsJoin (f (terms cut.0)) (g (terms cut.1)) b

module _ {L : Language} {x y : List ℕ} {n m : Option (List ℕ)} where
  -- each match is of this form
  divided : (f g : List Value → Binding) → BindsAlone x n f → BindsAlone y m g → (ts : List Tree) {k : Option ℕ} {b : Binding}
      → Match L (seq_of_both (named x any) n (named y any) m) (list k (trees ts)) b → Divided f g ts b
  divided f g e d ts h =
      let k = many_inside (list_inside h) in
      let a = taken ts k.run in
      let repeats : IsRepetition (x ∷ []) (each x (terms a.cut.0)) n k.first = subst (λ (cs : List Binding). IsRepetition (x ∷ []) cs n k.first) a.turns k.repeats in
      let left : k.first ≡ f (terms a.cut.0) = e (terms a.cut.0) k.first repeats in
      let right : k.rest ≡ g (terms a.cut.1) = d (terms a.cut.1) k.rest (last_binds a.cut.1 a.matched) in
      record { cut = a.cut; among = a.among; joined = joined_by left right k.joined }

  -- and each division gives a match
  division : (us vs : List Tree) {k : Option ℕ} {c d b : Binding} → IsRepetition (x ∷ []) (each x (terms us)) n c
      → IsRepetition (y ∷ []) (each y (terms vs)) m d
      → IsJoin c d b → Match L (seq_of_both (named x any) n (named y any) m) (list k (trees (us ++ vs))) b
  division us vs r s j = match_seq (match_many (run_of us vs (last_item vs s)) r j)

-- where b is what follows from each division, it is
by_cut : {f g : List Value → Binding} {ts : List Tree} {b : Binding} (R : Type 0)
    → HoldsOfAll (λ (c : Cut). IsJoin (f (terms c.0)) (g (terms c.1)) b → R) (cuts ts) → Divided f g ts b → R
by_cut {f} {g} {ts} {b} R h k = of_member (λ (c : Cut). IsJoin (f (terms c.0)) (g (terms c.1)) b → R) (cuts ts) h k.cut k.among k.joined

-- ---- two names

-- 1 alone, 2 alone, and both
abbrev alone : ℕ → List Tree
alone n = int n ∷ []

abbrev pair : ℕ → ℕ → List Tree
pair m n = int m ∷ int n ∷ []

-- the same, as what a name before an ellipsis stands for
abbrev in_turn : List Tree → Value
in_turn ts = in_turns (terms ts)

-- what `any_1 ...` and `any_2 ...` bind at these values
abbrev as_any_1 : List Value → Binding
as_any_1 vs = one_name (codes "any_1") (in_turns vs)

abbrev as_any_2 : List Value → Binding
as_any_2 vs = one_name (codes "any_2") (in_turns vs)

repeats_1 : (vs : List Value) → IsRepetition (codes "any_1" ∷ []) (each (codes "any_1") vs) None (as_any_1 vs)
repeats_1 vs = repeats (codes "any_1") vs

repeats_2 : (vs : List Value) → IsRepetition (codes "any_2" ∷ []) (each (codes "any_2") vs) None (as_any_2 vs)
repeats_2 vs = repeats (codes "any_2") vs

joined_both : (v w : Value) → IsJoin (one_name (codes "any_1") v) (one_name (codes "any_2") w) (both_bound v w)
joined_both v w = two_pairs (codes "any_1", v) (codes "any_2", w) refl

-- `(any_1 ... any_2 ...)` matches by each division
by_division : (us vs : List Tree) → Match Numbers (seq_of_both any_1 None any_2 None) (list None (trees (us ++ vs))) (both_bound (in_turn us) (in_turn vs))
by_division us vs = division us vs (repeats_1 (terms us)) (repeats_2 (terms vs)) (joined_both (in_turn us) (in_turn vs))

-- and binds what follows from it
divides : (us vs : List Tree) (b : Binding) → IsJoin (as_any_1 (terms us)) (as_any_2 (terms vs)) b → b ≡ both_bound (in_turn us) (in_turn vs)
divides us vs b j = one_join (as_any_1 (terms us)) (as_any_2 (terms vs)) b (both_bound (in_turn us) (in_turn vs)) j (joined_both (in_turn us) (in_turn vs))

pub each_division : EachDivision
each_division = matches_listed (refl, (refl, tt)) (listed members ((refl, tt), (tt, tt)) (by_division [] (alone 1), (by_division (alone 1) [], tt)) only)
  where
    members : List Binding
    members = both_bound (in_turn []) (in_turn (alone 1)) ∷ both_bound (in_turn (alone 1)) (in_turn []) ∷ []

    only : (b : Binding) → Match Numbers (seq_of_both any_1 None any_2 None) (list_of_one (int 1)) b → In b members
    only b h =
        by_cut (In b members) ((λ j. here (divides [] (alone 1) b j)), ((λ j. there (here (divides (alone 1) [] b j))), tt))
        (divided as_any_1 as_any_2 (repeats-only (codes "any_1")) (repeats-only (codes "any_2")) (alone 1) h)

-- ---- length names

-- what `any_1 ..._n` and `any_2 ..._n` bind at these values
abbrev counted_1 : List Value → Binding
counted_1 vs = counted (codes "..._n") (codes "any_1") vs

abbrev counted_2 : List Value → Binding
counted_2 vs = counted (codes "..._n") (codes "any_2") vs

counts_1 : (vs : List Value) → IsRepetition (codes "any_1" ∷ []) (each (codes "any_1") vs) (Some (codes "..._n")) (counted_1 vs)
counts_1 vs = counts (codes "..._n") (codes "any_1") vs refl

counts_2 : (vs : List Value) → IsRepetition (codes "any_2" ∷ []) (each (codes "any_2") vs) (Some (codes "..._n")) (counted_2 vs)
counts_2 vs = counts (codes "..._n") (codes "any_2") vs refl

pub no_turn : NoTurn
no_turn = matches_listed (refl, tt) (one_alone (counted_1 []) (match_seq (last_item [] (counts_1 [])))
    (λ b h. counts-only (codes "..._n") (codes "any_1") refl [] b (last_binds [] (list_inside h))))

-- a finite map is the join of two where each pair of it is of one of them, and each of theirs is of it
join_of : (a b c : List Pair) → HaveAscendingNames c → HoldsOfAll (λ p. In p a ⊎ In p b) c → HoldsOfAll (λ p. In p c) a → HoldsOfAll (λ p. In p c) b
    → IsJoin (of_pairs a) (of_pairs b) (of_pairs c)
join_of a b c m s l r = record {
  pairs = record {
    map = m;
    sound = of_member (λ p. In p a ⊎ In p b) c s;
    left = of_member (λ p. In p c) a l;
    right = of_member (λ p. In p c) b r;
  };
  differs = no_sets_left [] (tt, tt);
}

-- the lengths of repetitions with one length name are equal
equal_counts : (us vs : List Tree) (b : Binding) → IsJoin (counted_1 (terms us)) (counted_2 (terms vs)) b
    → len (length (each (codes "any_1") (terms us))) ≡ len (length (each (codes "any_2") (terms vs)))
equal_counts us vs b j =
    let m : Value = len (length (each (codes "any_1") (terms us))) in
    let n : Value = len (length (each (codes "any_2") (terms vs))) in
    (join_agrees (counted_1 (terms us)) (counted_2 (terms vs)) b j).pairs (codes "..._n") m n (here refl) (here refl)

pub equal_lengths : EqualLengths
equal_lengths = matches_listed (refl, tt) (one_alone all (division (alone 1) (alone 2) (counts_1 (terms (alone 1))) (counts_2 (terms (alone 2))) joined) only)
  where
    all : Binding
    all = of_pairs ((codes "..._n", len 1) ∷ (codes "any_1", in_turn (alone 1)) ∷ (codes "any_2", in_turn (alone 2)) ∷ [])

    joined : IsJoin (counted_1 (terms (alone 1))) (counted_2 (terms (alone 2))) all
    joined =
        join_of (counted_1 (terms (alone 1))).pairs (counted_2 (terms (alone 2))).pairs all.pairs ((refl, (refl, tt)), ((refl, tt), (tt, tt)))
        (inl (here refl), (inl (there (here refl)), (inr (there (here refl)), tt)))
        (here refl, (there (here refl), tt)) (here refl, (there (there (here refl)), tt))

    -- the lengths 0 and 2 differ
    none_first : (b : Binding) → IsJoin (counted_1 []) (counted_2 (terms (pair 1 2))) b → ⊥
    none_first b j = apart (len 0) (len 2) refl (equal_counts [] (pair 1 2) b j)

    both_first : (b : Binding) → IsJoin (counted_1 (terms (pair 1 2))) (counted_2 []) b → ⊥
    both_first b j = apart (len 0) (len 2) refl (sym (equal_counts (pair 1 2) [] b j))

    only : (b : Binding) → Match Numbers (seq_of_both any_1 (Some (codes "..._n")) any_2 (Some (codes "..._n"))) (list_of_two (int 1) (int 2)) b
        → b ≡ all
    only b h =
        by_cut (b ≡ all) (
          (λ j. absurd (none_first b j)),
          ((λ j. one_join (counted_1 (terms (alone 1))) (counted_2 (terms (alone 2))) b all j joined), ((λ j. absurd (both_first b j)), tt)),
        )
        (divided counted_1 counted_2 (counts-only (codes "..._n") (codes "any_1") refl) (counts-only (codes "..._n") (codes "any_2") refl) (pair 1 2) h)

-- ---- one name

-- any_1 is not a sequence and a longer one
no_longer : (t : Tree) (ts : List Tree) (b : Binding) → IsJoin (as_any_1 []) (as_any_1 (terms (t ∷ ts))) b → ⊥
no_longer t ts b j = two_values (codes "any_1") (in_turn []) (in_turn (t ∷ ts)) b refl j

no_shorter : (t : Tree) (ts : List Tree) (b : Binding) → IsJoin (as_any_1 (terms (t ∷ ts))) (as_any_1 []) b → ⊥
no_shorter t ts b j = no_longer t ts b (turned_join (as_any_1 (terms (t ∷ ts))) (as_any_1 []) b j)

-- `(any_1 ... any_1 ...)` matches by divisions
twice : (ts : List Tree) {k : Option ℕ} {b : Binding} → Match Numbers (seq_of_both any_1 None any_1 None) (list k (trees ts)) b
    → Divided as_any_1 as_any_1 ts b
twice ts h = divided as_any_1 as_any_1 (repeats-only (codes "any_1")) (repeats-only (codes "any_1")) ts h

pub equal_sequences : EqualSequences
equal_sequences = (
  matches_listed (refl, tt) (one_alone bound (division (alone 1) (alone 1) (repeats_1 (terms (alone 1))) (repeats_1 (terms (alone 1))) itself) only),
  matches_listed tt (no_member none),
)
  where
    bound : Binding
    bound = as_any_1 (terms (alone 1))

    itself : IsJoin bound bound bound
    itself = joined_itself bound ((tt, tt), (tt, tt)) refl

    only : (b : Binding) → Match Numbers (seq_of_both any_1 None any_1 None) (list_of_two (int 1) (int 1)) b → b ≡ bound
    only b h =
        by_cut (b ≡ bound)
        ((λ j. absurd (no_longer (int 1) (alone 1) b j)), ((λ j. one_itself-only j), ((λ j. absurd (no_shorter (int 1) (alone 1) b j)), tt)))
        (twice (pair 1 1) h)

    none : (b : Binding) → Match Numbers (seq_of_both any_1 None any_1 None) (list_of_two (int 1) (int 2)) b → ⊥
    none b h =
        by_cut ⊥
        (no_longer (int 1) (alone 2) b, (two_values (codes "any_1") (in_turn (alone 1)) (in_turn (alone 2)) b refl, (no_shorter (int 1) (alone 2) b, tt)))
        (twice (pair 1 2) h)

-- ---- sequences of sequences

-- a run of two turns, with no items behind it
record TwoTurns (L : Language) (p : Pattern) (t u : Tree) (cs : List Binding) (d : Binding) : Type 0 where
  pub first : Binding
  pub second : Binding
  pub at_first : Match L p t first
  pub at_second : Match L p u second
  pub turns : cs ≡ first ∷ second ∷ []
  pub behind : d ≡ no_names

-- so is each over two terms
two_turns : {L : Language} {p : Pattern} {t u : Tree} {cs : List Binding} {d : Binding} → MatchRun L p nil (cons t (cons u no_trees)) cs d
    → TwoTurns L p t u cs d
two_turns (run_end h) = elim h [ ]
two_turns (run_more h (run_end g)) = elim g [ ]
two_turns (run_more {c = b} h (run_more {c = c} g (run_end match_none))) =
    record { first = b; second = c; at_first = h; at_second = g; turns = refl; behind = refl }

pub sequence_of_sequences : SequenceOfSequences
sequence_of_sequences = matches_listed (refl, tt) (one_alone bound (match_seq (match_many run (repeats_1 both) (unit_right bound ((tt, tt), (tt, tt))))) only)
  where
    both : List Value
    both = in_turn (alone 1) ∷ in_turn [] ∷ []

    bound : Binding
    bound = as_any_1 both

    run : MatchRun Numbers (seq_of_any any_1 None) nil (trees (list_of_one (int 1) ∷ empty_list ∷ [])) (each (codes "any_1") both) no_names
    run = run_more (list_of_any (alone 1)) (run_more (list_of_any []) (run_end match_none))

    only : (b : Binding) → Match Numbers (seq_of_any (seq_of_any any_1 None) None) (list_of_two (list_of_one (int 1)) empty_list) b
        → b ≡ bound
    only b h =
        let k = many_inside (list_inside h) in
        let w = two_turns k.run in
        let turns : k.turns ≡ each (codes "any_1") both = w.turns ∙ (λ i. list_binds (alone 1) w.at_first i ∷ list_binds [] w.at_second i ∷ []) in
        let r : IsRepetition (codes "any_1" ∷ []) (each (codes "any_1") both) None k.first =
        subst (λ (cs : List Binding). IsRepetition (codes "any_1" ∷ []) cs None k.first) turns k.repeats in
        one_right-only (joined_by (repeats-only (codes "any_1") both k.first r) w.behind k.joined)

-- ---- what they split

-- two turns without names bind nothing
none_twice : IsRepetition [] (no_names ∷ no_names ∷ []) None no_names
none_twice = without_length (record {
  names = refl;
  sequences = λ x v i. elim i [ ];
  differs = sets_of_more (sets_of_more sets_of_none (no_sets_left [] (tt, tt))) (no_sets_left [] (tt, tt));
})

-- and nothing else
two_nameless : {b c d : Binding} → b ≡ no_names → c ≡ no_names → IsRepetition [] (b ∷ c ∷ []) None d → d ≡ no_names
two_nameless {b} {c} {d} e f r =
    one_repetition tt maps (subst (λ (cs : List Binding). IsRepetition [] cs None d) (λ i. e i ∷ f i ∷ []) r) none_twice
  where
    maps : AreMaps (no_names ∷ no_names ∷ [])
    maps g (here k) = subst HasAscendingNames (sym k) (tt, (tt, tt))
    maps g (there (here k)) = subst HasAscendingNames (sym k) (tt, (tt, tt))
    maps g (there (there i)) = elim i [ ]

-- joined with no names
nothing_more : {c d b : Binding} → c ≡ no_names → d ≡ no_names → IsJoin c d b → b ≡ no_names
nothing_more e f j = none_left-only (joined_by e f j)

-- `(hole ...)` splits a list of two at one item, and the other is the hole
one_hole : {m : Option ℕ} {t u C s : Tree} {b : Binding} → Split Contexts (seq_of_any hole None) (list m (cons t (cons u no_trees))) C s b
    → AtOneHole t u C s b
one_hole (split_seq (split_many (run_here g (run_end i)) r j) e) = elim i [ ]
one_hole {u = u} (split_seq (split_many (run_here g (run_more i (run_end match_none))) r j) e) =
    let k = hole_splits g in
    let n = hole_inside i in
    first_hole n.0 (e ∙ ap (λ (x : Tree). marked_first x u) k.0) k.1 (nothing_more (two_nameless k.2 n.1 r) refl j)
one_hole {t = t} (split_seq (split_many (run_there i (run_here g (run_end match_none))) r j) e) =
    let k = hole_splits g in
    let n = hole_inside i in
    second_hole n.0 (e ∙ ap (λ (x : Tree). marked_second t x) k.0) k.1 (nothing_more (two_nameless n.1 k.2 r) refl j)
one_hole (split_seq (split_many (run_there i (run_there g (run_behind o))) r j) e) = elim o [ ]
one_hole (split_seq (split_many (run_there i (run_behind o)) r j) e) = elim o [ ]
one_hole (split_seq (split_many (run_behind o) r j) e) = elim o [ ]

pub one_turn_splits : OneTurnSplits
one_turn_splits = splits_listed (refl, (refl, tt)) (listed at_either_item ((refl, tt), (tt, tt)) (at_first, (at_second, tt)) (λ d h. is_either d (one_hole h)))
  where
    at_first : Split Contexts (seq_of_any hole None) (list_of_two the_hole the_hole) first_marked the_hole no_names
    at_first = split_seq (split_many (run_here split_hole (run_more match_hole (run_end match_none))) none_twice none_left) refl

    at_second : Split Contexts (seq_of_any hole None) (list_of_two the_hole the_hole) second_marked the_hole no_names
    at_second = split_seq (split_many (run_there match_hole (run_here split_hole (run_end match_none))) none_twice none_left) refl
