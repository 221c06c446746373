-- Data that nest so deep at most, whose symbols are spelled as those of terms and have some texts; and relations without shorthand that are made of
-- such data.
use Rattle.std.proofs.Common.{◌≡◌, ◌++◌, ◌+◌, ◌*◌, ◌<◌, ◌≤◌, ℕ, zero, suc, Bool, true, false, List, [], ◌∷◌, Option, Some, None, length, map, subst, arith, if◌then◌else◌}
use Rattle.std.specs.Prelude.{◌&&◌, bytes_eq, codes}
use Rattle.rdx_base.specs.declared.place.Span.{Span}
use Rattle.rdx_sexp.specs.Sexp.{Atom, integer, truth, text, symbol, keyword, Sexp, Sexps, leaf, list, nil, cons, sexps, span_of, sexp_nodes, sexps_nodes}
use Rattle.rdx_sexp.specs.Size.{sexp_depth, sexps_depth, IsSpelledSexp, AreSpelled}
use Rattle.rdx_patterns.specs.Kinds.{is_among}
use Rattle.rdx_patterns.specs.Parts.{listed, parts, is_symbol, is_word, text_of}
use Rattle.rdx_patterns.specs.Readable.{IsReadable}
use Rattle.rdx_relations.specs.Expansion.{replaced, replaced_in, by_shortcut, expanded_case, settled, expanded_by, used_shortcuts, expanded_cases, expanded_form}
use Rattle.rdx_relations.specs.RelationForms.{CaseForm, case_among, case_form, RelationForm, is_keyword, relation_over, relation_among, relation_form}
use Rattle.rdx_relations.specs.Shorthand.{before_with, behind_with, Shortcut, is_new_arrow, shortcut_among, shortcut_of_lists, shortcut_form, with_shortcut, shortcuts_of, first_of_each}
use Rattle.rdx_relations.proofs.InheritedParts.{relation-has}
use Rattle.rdx_relations.proofs.PartsOfForms.{Each, RelationHas, IsInherited}

-- ---- symbols

-- where this is a symbol, Q holds of its text
abbrev pub AtomHas : (List ℕ → Type 0) → Atom → Type 0
AtomHas Q (integer n) = Unit {0}
AtomHas Q (truth b) = Unit {0}
AtomHas Q (text t) = Unit {0}
AtomHas Q (symbol x) = Q x
AtomHas Q (keyword k) = Unit {0}

abbrev mutual
  -- it holds of that of each symbol in the datum
  pub SymbolsHave : (List ℕ → Type 0) → Sexp → Type 0
  SymbolsHave Q (leaf a s) = AtomHas Q a
  SymbolsHave Q (list ds s) = AllSymbolsHave Q ds

  -- and in several data
  pub AllSymbolsHave : (List ℕ → Type 0) → Sexps → Type 0
  AllSymbolsHave Q nil = Unit {0}
  AllSymbolsHave Q (cons d ds) = SymbolsHave Q d × AllSymbolsHave Q ds

-- how deep data may nest in what shorthand stands for
abbrev pub limit : ℕ
limit = 1_100_000_000

module _ (Q : List ℕ → Type 0) where
  -- a datum nests no deeper, and its symbols are spelled as those of terms and have Q
  pub record IsSmall (n : ℕ) (d : Sexp) : Type 0 where
    pub depth : sexp_depth d ≤ n
    pub spelled : IsSpelledSexp d
    pub symbols : SymbolsHave Q d

  -- so do several
  pub record AreSmall (n : ℕ) (ds : Sexps) : Type 0 where
    pub depth : sexps_depth ds ≤ n
    pub spelled : AreSpelled ds
    pub symbols : AllSymbolsHave Q ds

  -- each of these does
  abbrev pub EachSmall : ℕ → List Sexp → Type 0
  EachSmall n ds = Each (IsSmall n) ds

  -- where more is allowed
  small-more : (m n : ℕ) (d : Sexp) → m ≤ n → IsSmall m d → IsSmall n d
  small-more m n d l h = record { depth = let k = h.depth in omega (arith, k, l); spelled = h.spelled; symbols = h.symbols }

  each-more : (m n : ℕ) (ds : List Sexp) → m ≤ n → EachSmall m ds → EachSmall n ds
  each-more m n [] l h = tt
  each-more m n (d ∷ ds) l h = (small-more m n d l h.0, each-more m n ds l h.1)

  -- the data of a list
  pub small-listed : (n : ℕ) (ds : Sexps) → AreSmall n ds → EachSmall n (listed ds)
  small-listed n nil h = tt
  small-listed n (cons d ds) h =
      let k = h.depth in (
        record { depth = omega (arith, k); spelled = h.spelled.0; symbols = h.symbols.0 },
        small-listed n ds (record { depth = omega (arith, k); spelled = h.spelled.1; symbols = h.symbols.1 }),
      )

  -- of a datum
  pub small-items : (n : ℕ) (ds : Sexps) (s : Span) → IsSmall n (list ds s) → EachSmall n (listed ds)
  small-items n ds s h = small-listed n ds (record { depth = let k = h.depth in omega (arith, k); spelled = h.spelled; symbols = h.symbols })

  -- a list of such data
  listed-small : (n : ℕ) (ds : List Sexp) → EachSmall n ds → AreSmall n (sexps ds)
  listed-small n [] h = record { depth = omega arith; spelled = tt; symbols = tt }
  listed-small n (d ∷ ds) h =
      let k = listed-small n ds h.1 in
      let a = h.0.depth in
      let b = k.depth in
      record { depth = omega (arith, a, b); spelled = (h.0.spelled, k.spelled); symbols = (h.0.symbols, k.symbols) }

  list-small : (n : ℕ) (ds : List Sexp) (s : Span) → EachSmall n ds → IsSmall (suc n) (list (sexps ds) s)
  list-small n ds s h =
      let k = listed-small n ds h in
      record { depth = let a = k.depth in omega (arith, a); spelled = k.spelled; symbols = k.symbols }

  -- such data can be read
  pub small-readable : (n : ℕ) (d : Sexp) → n < 4294967296 → IsSmall n d → IsReadable d
  small-readable n d l h = record { nested = let k = h.depth in omega (arith, k, l); spelled = h.spelled }

  -- ---- with another datum in place of a symbol

  mutual
    replaced-small : (x : List ℕ) (e : Sexp) (m : ℕ) → IsSmall m e → (d : Sexp) (n : ℕ) → IsSmall n d → IsSmall (m + n) (replaced x e d)
    replaced-small x e m h (leaf a s) n k = by_test (is_word x (leaf a s))
      where
        by_test : (b : Bool) → IsSmall (m + n) (if b then e else leaf a s)
        by_test true = small-more m (m + n) e (omega arith) h
        by_test false = record { depth = omega arith; spelled = k.spelled; symbols = k.symbols }
    replaced-small x e m h (list ds s) n k =
        let l = k.depth in
        let r = replaced_in-small x e m h ds (sexps_depth ds) (record { depth = omega arith; spelled = k.spelled; symbols = k.symbols }) in
        record { depth = let a = r.depth in omega (arith, a, l); spelled = r.spelled; symbols = r.symbols }

    replaced_in-small : (x : List ℕ) (e : Sexp) (m : ℕ) → IsSmall m e → (ds : Sexps) (n : ℕ) → AreSmall n ds → AreSmall (m + n) (replaced_in x e ds)
    replaced_in-small x e m h nil n k = record { depth = omega arith; spelled = tt; symbols = tt }
    replaced_in-small x e m h (cons d ds) n k =
        let l = k.depth in
        let p = replaced-small x e m h d n (record { depth = omega (arith, l); spelled = k.spelled.0; symbols = k.symbols.0 }) in
        let q = replaced_in-small x e m h ds n (record { depth = omega (arith, l); spelled = k.spelled.1; symbols = k.symbols.1 }) in
        record { depth = let a = p.depth in let b = q.depth in omega (arith, a, b); spelled = (p.spelled, q.spelled); symbols = (p.symbols, q.symbols) }

  -- ---- the items of data

  -- where there are any
  abbrev pub SmallIn : ℕ → Option (List Sexp) → Type 0
  SmallIn n None = Unit {0}
  SmallIn n (Some ds) = EachSmall n ds

  -- the parts of a datum
  pub small-parts : (n : ℕ) (d : Sexp) → IsSmall n d → SmallIn n (parts d)
  small-parts n (leaf a s) h = tt
  small-parts n (list ds s) h = small-items n ds s h

  -- ---- shortcuts

  -- what is kept of a shortcut
  record IsSmallShortcut (n : ℕ) (s : Shortcut) : Type 0 where
    pub old : IsSmall n s.old
    pub pattern : IsSmall n s.pattern
    pub result : IsSmall n s.result

  abbrev SmallShortcutIn : ℕ → Option Shortcut → Type 0
  SmallShortcutIn n None = Unit {0}
  SmallShortcutIn n (Some s) = IsSmallShortcut n s

  -- by its lists
  among-small : (n : ℕ) (x y : Option (List Sexp)) → SmallIn n x → SmallIn n y → SmallShortcutIn n (shortcut_among x y)
  among-small n None y h k = tt
  among-small n (Some []) y h k = tt
  among-small n (Some (o ∷ [])) y h k = tt
  among-small n (Some (o ∷ p ∷ [])) y h k = tt
  among-small n (Some (o ∷ p ∷ t ∷ d ∷ ds)) y h k = tt
  among-small n (Some (o ∷ p ∷ t ∷ [])) None h k = tt
  among-small n (Some (o ∷ p ∷ t ∷ [])) (Some []) h k = tt
  among-small n (Some (o ∷ p ∷ t ∷ [])) (Some (w ∷ [])) h k = tt
  among-small n (Some (o ∷ p ∷ t ∷ [])) (Some (w ∷ a ∷ [])) h k = tt
  among-small n (Some (o ∷ p ∷ t ∷ [])) (Some (w ∷ a ∷ b ∷ d ∷ ds)) h k = tt
  among-small n (Some (o ∷ p ∷ t ∷ [])) (Some (w ∷ a ∷ b ∷ [])) h k = by_test (is_symbol o && is_new_arrow w a b)
    where
      by_test : (c : Bool) → SmallShortcutIn n (if c then Some (record { old = o; pattern = p; result = t; new = w; for_pattern = a; for_result = b }) else None)
      by_test true = record { old = h.0; pattern = h.1.0; result = h.1.1.0 }
      by_test false = tt

  lists-small : (n : ℕ) (o : Option (List Sexp)) → SmallIn n o → SmallShortcutIn n (shortcut_of_lists o)
  lists-small n None h = tt
  lists-small n (Some []) h = tt
  lists-small n (Some (c ∷ [])) h = tt
  lists-small n (Some (c ∷ w ∷ d ∷ ds)) h = tt
  lists-small n (Some (c ∷ w ∷ [])) h = among-small n (parts c) (parts w) (small-parts n c h.0) (small-parts n w h.1.0)

  -- of several
  abbrev SmallShortcuts : ℕ → List Shortcut → Type 0
  SmallShortcuts n [] = Unit {0}
  SmallShortcuts n (s ∷ ss) = IsSmallShortcut n s × SmallShortcuts n ss

  with-small : (n : ℕ) (o : Option Shortcut) (ss : List Shortcut) → SmallShortcutIn n o → SmallShortcuts n ss → SmallShortcuts n (with_shortcut o ss)
  with-small n None ss h k = k
  with-small n (Some s) ss h k = (h, k)

  shortcuts-small : (n : ℕ) (ds : List Sexp) → EachSmall n ds → SmallShortcuts n (shortcuts_of ds)
  shortcuts-small n [] h = tt
  shortcuts-small n (d ∷ ds) h =
      with-small n (shortcut_form d) (shortcuts_of ds) (lists-small n (parts d) (small-parts n d h.0)) (shortcuts-small n ds h.1)

  -- those that count
  firsts-small : (n : ℕ) (seen : List (List ℕ)) (ss : List Shortcut) → SmallShortcuts n ss → SmallShortcuts n (first_of_each seen ss)
  firsts-small n seen [] h = tt
  firsts-small n seen (s ∷ ss) h = by_test (is_among seen (text_of s.new)) (firsts-small n (text_of s.new ∷ seen) ss h.1)
    where
      by_test : (b : Bool) → SmallShortcuts n (first_of_each (text_of s.new ∷ seen) ss)
          → SmallShortcuts n ((if b then [] else s ∷ []) ++ first_of_each (text_of s.new ∷ seen) ss)
      by_test true k = k
      by_test false k = (h.0, k)

  -- ---- cases

  -- what is kept of a case
  record IsSmallCase (n : ℕ) (c : CaseForm) : Type 0 where
    pub arrow : IsSmall n c.arrow
    pub pattern : IsSmall n c.pattern
    pub result : IsSmall n c.result
    pub extras : EachSmall n c.extras

  abbrev SmallCaseIn : ℕ → Option CaseForm → Type 0
  SmallCaseIn n None = Unit {0}
  SmallCaseIn n (Some c) = IsSmallCase n c

  -- by its parts
  case-small : (n : ℕ) (o : Option (List Sexp)) → SmallIn n o → SmallCaseIn n (case_among o)
  case-small n None h = tt
  case-small n (Some []) h = tt
  case-small n (Some (a ∷ [])) h = tt
  case-small n (Some (a ∷ p ∷ [])) h = tt
  case-small n (Some (a ∷ p ∷ t ∷ es)) h = by_test (is_symbol a)
    where
      by_test : (b : Bool) → SmallCaseIn n (if b then Some (record { arrow = a; pattern = p; result = t; extras = es }) else None)
      by_test true = record { arrow = h.0; pattern = h.1.0; result = h.1.1.0; extras = h.1.1.1 }
      by_test false = tt

  -- the extras of a case
  pub case-extras : (n : ℕ) (d : Sexp) (c : CaseForm) → IsSmall n d → case_form d ≡ Some c → EachSmall n c.extras
  case-extras n d c h e = (subst (SmallCaseIn n) e (case-small n (parts d) (small-parts n d h))).extras

  case-more : (m n : ℕ) (c : CaseForm) → m ≤ n → IsSmallCase m c → IsSmallCase n c
  case-more m n c l h = record {
    arrow = small-more m n c.arrow l h.arrow;
    pattern = small-more m n c.pattern l h.pattern;
    result = small-more m n c.result l h.result;
    extras = each-more m n c.extras l h.extras;
  }

  -- by one shortcut a case becomes so much deeper at most
  once-small : (b : Bool) (s : Shortcut) (c : CaseForm) (m n : ℕ) → IsSmallShortcut m s → IsSmallCase n c
      → IsSmallCase (n + m) (if b then by_shortcut s c else c)
  once-small false s c m n h k = case-more n (n + m) c (omega arith) k
  once-small true s c m n h k = record {
    arrow = small-more m (n + m) s.old (omega arith) h.old;
    pattern = replaced-small (text_of s.for_pattern) c.pattern n k.pattern s.pattern m h.pattern;
    result = replaced-small (text_of s.for_result) c.result n k.result s.result m h.result;
    extras = each-more n (n + m) c.extras (omega arith) k.extras;
  }

  -- how deep it may be behind several
  abbrev reach : List Shortcut → ℕ
  reach [] = 500
  reach (s ∷ ss) = reach ss + 500

  -- a case by all of them
  expanded-small : (ss : List Shortcut) (c : CaseForm) → SmallShortcuts 500 ss → IsSmallCase 500 c → IsSmallCase (reach ss) (expanded_case ss c)
  expanded-small [] c h k = k
  expanded-small (s ∷ ss) c h k =
      once-small (bytes_eq (text_of s.new) (text_of (expanded_case ss c).arrow)) s (expanded_case ss c) 500 (reach ss) h.0 (expanded-small ss c h.1 k)

  -- that leads to `-->`, or to another arrow
  settled-small : (b : Bool) (c x : CaseForm) (n : ℕ) → IsSmallCase n c → IsSmallCase n x
      → IsSmallCase n (if b then x else record { arrow = x.arrow; pattern = c.pattern; result = c.result; extras = c.extras })
  settled-small true c x n h k = k
  settled-small false c x n h k = record { arrow = k.arrow; pattern = h.pattern; result = h.result; extras = h.extras }

  -- it is no less than at first
  reach-start : (ss : List Shortcut) → 500 ≤ reach ss
  reach-start [] = omega arith
  reach-start (s ∷ ss) = let k = reach-start ss in omega (arith, k)

  -- as a datum
  datum-small : (ss : List Shortcut) (d : Sexp) (o : Option CaseForm) → SmallShortcuts 500 ss → IsSmall 500 d → SmallCaseIn 500 o
      → IsSmall (suc (reach ss)) (expanded_by ss d o)
  datum-small ss d None h k l = let r = reach-start ss in small-more 500 (suc (reach ss)) d (omega (arith, r)) k
  datum-small ss d (Some c) h k l =
      let x = expanded_case ss c in
      let y = settled c x in
      let e = settled-small (is_word (codes "-->") x.arrow) c x (reach ss) (case-more 500 (reach ss) c (reach-start ss) l) (expanded-small ss c h l) in
      list-small (reach ss) (y.arrow ∷ y.pattern ∷ y.result ∷ y.extras) (span_of d) (e.arrow, (e.pattern, (e.result, e.extras)))

  -- all of them
  all-small : (ss : List Shortcut) (ds : List Sexp) → SmallShortcuts 500 ss → EachSmall 500 ds
      → EachSmall (suc (reach ss)) (map (λ d. expanded_by ss d (case_form d)) ds)
  all-small ss [] h k = tt
  all-small ss (d ∷ ds) h k = (datum-small ss d (case_form d) h k.0 (case-small 500 (parts d) (small-parts 500 d k.0)), all-small ss ds h k.1)

  -- ---- how many shortcuts there are

  -- no more than there are data
  with-length : (o : Option Shortcut) (ss : List Shortcut) → length (with_shortcut o ss) ≤ suc (length ss)
  with-length None ss = omega arith
  with-length (Some s) ss = omega arith

  shortcuts-length : (ds : List Sexp) → length (shortcuts_of ds) ≤ length ds
  shortcuts-length [] = omega arith
  shortcuts-length (d ∷ ds) = let a = with-length (shortcut_form d) (shortcuts_of ds) in let b = shortcuts-length ds in omega (arith, a, b)

  firsts-length : (seen : List (List ℕ)) (ss : List Shortcut) → length (first_of_each seen ss) ≤ length ss
  firsts-length seen [] = omega arith
  firsts-length seen (s ∷ ss) = by_test (is_among seen (text_of s.new)) (firsts-length (text_of s.new ∷ seen) ss)
    where
      by_test : (b : Bool) → length (first_of_each (text_of s.new ∷ seen) ss) ≤ length ss
          → length ((if b then [] else s ∷ []) ++ first_of_each (text_of s.new ∷ seen) ss) ≤ suc (length ss)
      by_test true k = omega (arith, k)
      by_test false k = omega (arith, k)

  behind-length : (ds : List Sexp) → length (behind_with ds) ≤ length ds
  behind-length [] = omega arith
  behind-length (d ∷ ds) = by_test (is_word (codes "with") d) (behind-length ds)
    where
      by_test : (b : Bool) → length (behind_with ds) ≤ length ds → length (if b then ds else behind_with ds) ≤ suc (length ds)
      by_test true k = omega arith
      by_test false k = omega (arith, k)

  -- so deep they lead at most
  reach-length : (ss : List Shortcut) (n : ℕ) → length ss ≤ n → reach ss ≤ 500 + 500 * n
  reach-length [] n l = omega (arith, l)
  reach-length (s ∷ ss) (suc n) l = let k = reach-length ss n (omega (arith, l)) in omega (arith, k)
  reach-length (s ∷ ss) zero l = absurd (omega (arith, l))

  -- ---- the cases of a relation

  -- before `with`
  small-before : (n : ℕ) (ds : List Sexp) → EachSmall n ds → EachSmall n (before_with ds)
  small-before n [] h = tt
  small-before n (d ∷ ds) h = by_test (is_word (codes "with") d) (small-before n ds h.1)
    where
      by_test : (b : Bool) → EachSmall n (before_with ds) → EachSmall n (if b then [] else d ∷ before_with ds)
      by_test true k = tt
      by_test false k = (h.0, k)

  -- and behind it
  small-behind : (n : ℕ) (ds : List Sexp) → EachSmall n ds → EachSmall n (behind_with ds)
  small-behind n [] h = tt
  small-behind n (d ∷ ds) h = by_test (is_word (codes "with") d) (small-behind n ds h.1)
    where
      by_test : (b : Bool) → EachSmall n (behind_with ds) → EachSmall n (if b then ds else behind_with ds)
      by_test true k = h.1
      by_test false k = k

  -- all of them, without shorthand
  cases-small : (r : RelationForm) → length r.cases ≤ 2_097_152 → EachSmall 500 r.cases → EachSmall limit (expanded_cases r)
  cases-small r l h =
      let ds = behind_with r.cases in
      let ss = used_shortcuts ds in
      let a = firsts-length [] (shortcuts_of ds) in
      let b = shortcuts-length ds in
      let c = behind-length r.cases in
      let k = reach-length ss 2_097_152 (omega (arith, a, b, c, l)) in
      each-more (suc (reach ss)) limit (expanded_cases r) (omega (arith, k))
      (all-small ss (before_with r.cases) (firsts-small 500 [] (shortcuts_of ds) (shortcuts-small 500 ds (small-behind 500 r.cases h))) (small-before 500 r.cases h))

  -- ---- how many cases there are

  -- each datum is one at least
  node-some : (d : Sexp) → 1 ≤ sexp_nodes d
  node-some (leaf a s) = omega arith
  node-some (list ds s) = omega arith

  -- so the items of a list are no more
  listed-length : (ds : Sexps) → length (listed ds) ≤ sexps_nodes ds
  listed-length nil = omega arith
  listed-length (cons d ds) = let a = node-some d in let b = listed-length ds in omega (arith, a, b)

  -- no more items than that
  abbrev FewIn : ℕ → Option (List Sexp) → Type 0
  FewIn n None = Unit {0}
  FewIn n (Some ds) = length ds ≤ n

  abbrev FewCasesIn : ℕ → Option RelationForm → Type 0
  FewCasesIn n None = Unit {0}
  FewCasesIn n (Some r) = length r.cases ≤ n

  parts-few : (d : Sexp) → FewIn (sexp_nodes d) (parts d)
  parts-few (leaf a s) = tt
  parts-few (list ds s) = let k = listed-length ds in omega (arith, k)

  over-few : (n : ℕ) (l : Sexp) (ds : List Sexp) → length ds ≤ n → length (relation_over l ds).cases ≤ n
  over-few n l [] h = h
  over-few n l (k ∷ []) h = h
  over-few n l (k ∷ p ∷ cs) h = by_test (is_keyword (codes "domain") k)
    where
      by_test : (b : Bool)
          → FewCasesIn n
          (Some (if b then record { language = l; domain = Some p; cases = cs } else record { language = l; domain = None; cases = k ∷ p ∷ cs }))
      by_test true = omega (arith, h)
      by_test false = h

  among-few : (n : ℕ) (o : Option (List Sexp)) → FewIn n o → FewCasesIn n (relation_among o)
  among-few n None h = tt
  among-few n (Some []) h = tt
  among-few n (Some (w ∷ [])) h = tt
  among-few n (Some (w ∷ l ∷ ds)) h = by_test (is_word (codes "reduction-relation") w && is_symbol l)
    where
      by_test : (b : Bool) → FewCasesIn n (if b then Some (relation_over l ds) else None)
      by_test true = over-few n l ds (omega (arith, h))
      by_test false = tt

  -- nor are the cases of a relation
  cases-few : (d : Sexp) (r : RelationForm) → relation_form d ≡ Some r → length r.cases ≤ sexp_nodes d
  cases-few d r e = subst (FewCasesIn (sexp_nodes d)) e (among-few (sexp_nodes d) (parts d) (parts-few d))

  -- ---- relations

  -- small data pass to the parts of a form
  small-inherited : IsInherited (IsSmall 500) (λ w. Unit {0})
  small-inherited = record {
    readable = λ d h. small-readable 500 d (omega arith) h;
    items = λ ds s h. small-items 500 ds s h;
    taken_one = λ p h. tt;
    taken_several = λ ds r h. tt;
    taken_each = λ ds h. tt;
  }

  -- what a relation is without shorthand is made of small data
  pub relation-small : (d : Sexp) (r : RelationForm) → IsSmall 500 d → sexp_nodes d ≤ 2_097_152 → relation_form d ≡ Some r
      → RelationHas (IsSmall limit) (expanded_form r)
  relation-small d r h l e =
      let k = relation-has (IsSmall 500) (λ w. Unit {0}) small-inherited d r h e in
      let few = cases-few d r e in
      record {
        domain = each-more 500 limit _ (omega arith) k.domain;
        cases = cases-small r (omega (arith, few, l)) k.cases;
        language = k.language;
      }
