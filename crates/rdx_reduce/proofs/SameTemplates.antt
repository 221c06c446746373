-- A template makes the same of bindings in which the names that it may have stand for the same.
use Rattle.std.proofs.Common.{◌≡◌, ℕ, suc, ◌-◌, true, List, [], ◌∷◌, ◌++◌, refl, ap, if◌then◌else◌}
use Rattle.std.proofs.lemmas.Bool.{and_parts}
use Rattle.std.specs.List.{list_all}
use Rattle.std.specs.Prelude.{◌&&◌, not, nat_lt}
use Rattle.rdx_term.specs.Tree.{Tree, truth}
use Rattle.rdx_lang.specs.Bindings.{Binding, value_at}
use Rattle.rdx_lang.specs.Fitting.{Bound, Called, drives, fits, fit, fits_in, fit_in}
use Rattle.rdx_lang.specs.Templates.{Template, lit, var, fill, call, host, seq, Items, nil, one, many, Host, term, number, boolean, apply, both, either, Hosts, none, more}
use Rattle.rdx_eval.specs.Answers.{Answer, value, Then, Both, Gather, Single}
use Rattle.rdx_eval.specs.Calls.{Calls}
use Rattle.rdx_eval.specs.Instantiation.{Inst, InstItems, InstHost, InstHosts, FirstFalse, FirstTrue, Either, EachTurn, is_false, Makes, MakeList}
use Rattle.rdx_eval.specs.Making.{IsList, IsFilled}
use Rattle.rdx_eval.specs.Turns.{turns, in_turns, term_or, innermost, lengths, all_lengths, host_lengths, hosts_lengths}

-- the same relation before another
then-same : {A B : Type 0} (R Q : Answer A → Type 0) (S : A → Answer B → Type 0) → R ≡ Q → Then R S ≡ Then Q S
then-same R Q S e = λ i. Then (e i) S

module _ (F : Called) (B : Bound) (b c : Binding) (same : (x : List ℕ) (d : ℕ) → B x d ≡ true → value_at b x ≡ value_at c x) where
  mutual
    -- it has the same turns
    lengths-same : (is : List ℕ) (k j : ℕ) (t : Template) → fits F B k t ≡ true → lengths b is j t ≡ lengths c is j t
    lengths-same is k j (lit t) h = refl
    lengths-same is k j (var x d) h =
        ap (λ o. if nat_lt j d then turns (in_turns o (innermost (d - suc j) is)) ∷ [] else []) (same x d (and_parts (B x d) (not (nat_lt k d)) h).0)
    lengths-same is k j (fill s t) h =
        let g = and_parts (fits F B k s) (fits F B k t) h in λ i. lengths-same is k j s g.0 i ++ lengths-same is k j t g.1 i
    lengths-same is k j (call f ts) h = all_lengths-same is k j ts (and_parts (F f) (fit F B k ts) h).1
    lengths-same is k j (host e) h = host_lengths-same is k j e h
    lengths-same is k j (seq ts) h = all_lengths-same is k j ts h

    -- so have items
    all_lengths-same : (is : List ℕ) (k j : ℕ) (ts : Items) → fit F B k ts ≡ true → all_lengths b is j ts ≡ all_lengths c is j ts
    all_lengths-same is k j nil h = refl
    all_lengths-same is k j (one t ts) h =
        let g = and_parts (fits F B k t) (fit F B k ts) h in λ i. lengths-same is k j t g.0 i ++ all_lengths-same is k j ts g.1 i
    all_lengths-same is k j (many t ts) h =
        let g = and_parts (fits F B (suc k) t) (fit F B k ts) (and_parts (drives 0 t) (fits F B (suc k) t && fit F B k ts) h).1 in
        λ i. lengths-same is (suc k) (suc j) t g.0 i ++ all_lengths-same is k j ts g.1 i

    -- so has a host expression
    host_lengths-same : (is : List ℕ) (k j : ℕ) (e : Host) → fits_in F B k e ≡ true → host_lengths b is j e ≡ host_lengths c is j e
    host_lengths-same is k j (term t) h = lengths-same is k j t h
    host_lengths-same is k j (number n) h = refl
    host_lengths-same is k j (boolean v) h = refl
    host_lengths-same is k j (apply op es) h = hosts_lengths-same is k j es h
    host_lengths-same is k j (both es) h = hosts_lengths-same is k j es h
    host_lengths-same is k j (either es) h = hosts_lengths-same is k j es h

    -- and several
    hosts_lengths-same : (is : List ℕ) (k j : ℕ) (es : Hosts) → fit_in F B k es ≡ true → hosts_lengths b is j es ≡ hosts_lengths c is j es
    hosts_lengths-same is k j none h = refl
    hosts_lengths-same is k j (more e es) h =
        let g = and_parts (fits_in F B k e) (fit_in F B k es) h in λ i. host_lengths-same is k j e g.0 i ++ hosts_lengths-same is k j es g.1 i

  module _ (C : Calls) where
    mutual
      -- what a template makes
      pub inst-same : (is : List ℕ) (k : ℕ) (t : Template) → fits F B k t ≡ true → Inst C b is t ≡ Inst C c is t
      inst-same is k (lit t) h = refl
      inst-same is k (var x d) h =
          ap (λ o r. r ≡ value (term_or x (in_turns o (innermost d is)))) (same x d (and_parts (B x d) (not (nat_lt k d)) h).0)
      inst-same is k (fill s t) h =
          let g = and_parts (fits F B k s) (fits F B k t) h in
          λ i. Then (inst-same is k s g.0 i) (λ u. Then (inst-same is k t g.1 i) (λ v. IsFilled u v))
      inst-same is k (call f ts) h =
          let g = (and_parts (F f) (fit F B k ts) h).1 in λ i. Then (Then (items-same is k ts g i) IsList) (C.value_of f)
      inst-same is k (host e) h = host-same is k e h
      inst-same is k (seq ts) h = λ i. Then (items-same is k ts h i) IsList

      -- what items make
      items-same : (is : List ℕ) (k : ℕ) (ts : Items) → fit F B k ts ≡ true → InstItems C b is ts ≡ InstItems C c is ts
      items-same is k nil h = refl
      items-same is k (one t ts) h =
          let g = and_parts (fits F B k t) (fit F B k ts) h in λ i. Both (Single (inst-same is k t g.0 i)) (items-same is k ts g.1 i)
      items-same is k (many t ts) h =
          let g = and_parts (fits F B (suc k) t) (fit F B k ts) (and_parts (drives 0 t) (fits F B (suc k) t && fit F B k ts) h).1 in
          λ i. Both (EachTurn (lengths-same is (suc k) 0 t g.0 i) (λ j. inst-same (is ++ j ∷ []) (suc k) t g.0 i)) (items-same is k ts g.1 i)

      -- what a host expression makes
      pub host-same : (is : List ℕ) (k : ℕ) (e : Host) → fits_in F B k e ≡ true → InstHost C b is e ≡ InstHost C c is e
      host-same is k (term t) h = inst-same is k t h
      host-same is k (number n) h = refl
      host-same is k (boolean v) h = refl
      host-same is k (apply op es) h = then-same (InstHosts C b is es) (InstHosts C c is es) _ (hosts-same is k es h)
      host-same is k (both es) h = first_false-same is k (truth true) es h
      host-same is k (either es) h = first_true-same is k es h

      -- what several make
      hosts-same : (is : List ℕ) (k : ℕ) (es : Hosts) → fit_in F B k es ≡ true → InstHosts C b is es ≡ InstHosts C c is es
      hosts-same is k none h = refl
      hosts-same is k (more e es) h =
          let g = and_parts (fits_in F B k e) (fit_in F B k es) h in λ i. Both (Single (host-same is k e g.0 i)) (hosts-same is k es g.1 i)

      -- the first false, or the last
      first_false-same : (is : List ℕ) (k : ℕ) (u : Tree) (es : Hosts) → fit_in F B k es ≡ true → FirstFalse C b is u es ≡ FirstFalse C c is u es
      first_false-same is k u none h = refl
      first_false-same is k u (more e es) h =
          let g = and_parts (fits_in F B k e) (fit_in F B k es) h in
          λ i. Then (host-same is k e g.0 i) (λ t. Either (is_false t) t (first_false-same is k t es g.1 i))

      -- the first that is not false, or false
      first_true-same : (is : List ℕ) (k : ℕ) (es : Hosts) → fit_in F B k es ≡ true → FirstTrue C b is es ≡ FirstTrue C c is es
      first_true-same is k none h = refl
      first_true-same is k (more e es) h =
          let g = and_parts (fits_in F B k e) (fit_in F B k es) h in
          λ i. Then (host-same is k e g.0 i) (λ t. Either (not (is_false t)) t (first_true-same is k es g.1 i))

    -- what templates make, one after the other
    gather-same : (ts : List Template) → list_all (fits F B 0) ts ≡ true
        → Gather (λ t. Single (Makes C b t)) ts ≡ Gather (λ t. Single (Makes C c t)) ts
    gather-same [] h = refl
    gather-same (t ∷ ts) h =
        let g = and_parts (fits F B 0 t) (list_all (fits F B 0) ts) h in λ i. Both (Single (inst-same [] 0 t g.0 i)) (gather-same ts g.1 i)

    -- the list of what they make
    pub list-same : (ts : List Template) → list_all (fits F B 0) ts ≡ true → MakeList C b ts ≡ MakeList C c ts
    list-same ts h = λ i. Then (gather-same ts h i) IsList
