-- Queries answered one by one.
use Rattle.std.proofs.Common.{◌≡◌, ◌++◌, ℕ, Bool, true, false, ◌+◌, ◌<◌, ◌≤◌, length, drop, get_or, List, [], map, refl, sym, subst, append_assoc, append-nil, arith}
use Rattle.std.specs.Prelude.{◌&&◌}
use Rattle.rdx_lang.proofs.Rest.{rest_at, rest_none}
use Rattle.rdx_lang.specs.Programs.{Program}
use Rattle.rdx_answer.specs.Answering.{AreAnswers, no_answers, more_answers, counts_behind}
use Rattle.rdx_answer.specs.Bound.{Bound}
use Rattle.rdx_answer.specs.Inside.Appending.{AppendsAnswer}
use Rattle.rdx_answer.specs.Queries as model
use Rattle.rdx_answer.specs.Queries.{NamesKnown, matches, whether, splits, value, holds, reducts, tagged, stepper, generate, check, alike, substituted, test_equal, test_step, test_run, test_match, test_holds, test_results}
use Rattle.rdx_answer.specs.Tests.{Counts, no_tests, one_more}
use Rattle.rdx_answer.specs.Views.{AllNamesKnown, query_of}
use Rattle.rdx_answer.specs.declared.queries.Query.{Query}

-- ---- counts

-- how many tests there are
abbrev pub total : Counts → ℕ
total c = c.passed + c.failed

-- one more makes one more
total-more : (m : Bool) (c : Counts) → total (one_more m c) ≤ total c + 1
total-more true c = omega arith
total-more false c = omega arith

-- so behind a query there is one more at most
pub total-behind : (q : model.Query) (m : Bool) (c : Counts) → total (counts_behind q m c) ≤ total c + 1
total-behind (matches name p h) m c = omega arith
total-behind (whether name p h) m c = omega arith
total-behind (splits name p h) m c = omega arith
total-behind (value h) m c = omega arith
total-behind (holds q t) m c = omega arith
total-behind (reducts name h) m c = omega arith
total-behind (tagged name h) m c = omega arith
total-behind (stepper name h) m c = omega arith
total-behind (generate name p size seed) m c = omega arith
total-behind (check name p h attempts seed) m c = omega arith
total-behind (alike fs h k) m c = omega arith
total-behind (substituted fs h k l) m c = omega arith
total-behind (test_equal h k) m c = total-more m c
total-behind (test_step name h ks) m c = total-more m c
total-behind (test_run name h ks) m c = total-more m c
total-behind (test_match name p h wanted) m c = total-more m c
total-behind (test_holds q) m c = total-more m c
total-behind test_results m c = omega arith

-- ---- facts

-- three facts together
pub and-assoc : (a b c : Bool) → ((a && b) && c) ≡ (a && (b && c))
and-assoc true b c = refl
and-assoc false b c = refl

-- a fact and one that always holds
pub and-true : (a : Bool) → (a && true) ≡ a
and-true true = refl
and-true false = refl

-- ---- queries

-- the text so far, which the answers to the rest complete, where the languages have these binding forms and so many tests were counted, and whether
-- all so far is met; and what the rest names is known
pub record Upto (P : Program) (cs : List ℕ) (bs : List Bound) (all rest : List Query) (c : Counts) (text : List ℕ) (met : Bool) : Type 0 where
  pub completes : (texts : List ℕ) (m : Bool) → AreAnswers P cs c (map (query_of bs) rest) texts m
      → AreAnswers P cs no_tests (map (query_of bs) all) (text ++ texts) (met && m)
  pub named : AllNamesKnown P (map (query_of bs) rest)

module _ (P : Program) (cs : List ℕ) (bs : List Bound) (all : List Query) where
  -- what the next query names is known
  pub upto_named : (i : ℕ) (q : Query) (c : Counts) (text : List ℕ) (met : Bool) → i < length all → q ≡ get_or all i q → Upto P cs bs all (drop i all) c text met
      → NamesKnown P (query_of bs q)
  upto_named i q c text met h e u = (subst (AllNamesKnown P) (rest_at (query_of bs) all i q h e) u.named).0

  -- one answer more
  pub upto_next : (i : ℕ) (q : Query) (c : Counts) (before after : List ℕ) (met m : Bool) → i < length all → q ≡ get_or all i q
      → AppendsAnswer P cs c (query_of bs q) before after m → Upto P cs bs all (drop i all) c before met
      → Upto P cs bs all (drop (i + 1) all) (counts_behind (query_of bs q) m c) after (met && m)
  upto_next i q c before after met m h e a u = record {
    completes = λ texts n r.
        subst (λ (b : Bool). AreAnswers P cs no_tests (map (query_of bs) all) (after ++ texts) b) (sym (and-assoc met m n))
        (subst (λ (x : List ℕ). AreAnswers P cs no_tests (map (query_of bs) all) (x ++ texts) (met && (m && n))) (sym a.gained)
        (subst (λ (x : List ℕ). AreAnswers P cs no_tests (map (query_of bs) all) x (met && (m && n))) (sym (append_assoc before a.text texts))
        (u.completes (a.text ++ texts) (m && n)
        (subst (λ qs. AreAnswers P cs c qs (a.text ++ texts) (m && n)) (sym (rest_at (query_of bs) all i q h e)) (more_answers a.text texts m n a.answer r)))));
    named = (subst (AllNamesKnown P) (rest_at (query_of bs) all i q h e) u.named).1;
  }

  -- all queries are answered
  pub upto_end : (i : ℕ) (c : Counts) (text : List ℕ) (met : Bool) → length all ≤ i → Upto P cs bs all (drop i all) c text met
      → AreAnswers P cs no_tests (map (query_of bs) all) text met
  upto_end i c text met e u =
      subst (λ (b : Bool). AreAnswers P cs no_tests (map (query_of bs) all) text b) (and-true met)
      (subst (λ (x : List ℕ). AreAnswers P cs no_tests (map (query_of bs) all) x (met && true)) (append-nil text)
      (u.completes [] true (subst (λ qs. AreAnswers P cs c qs [] true) (sym (rest_none (query_of bs) all i e)) no_answers)))
