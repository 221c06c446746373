-- Cases without shorthand are readable where what is written is.
use Rattle.std.proofs.Common.{◌≡◌, ◌++◌, ◌∙◌, ◌+◌, ◌<◌, ◌≤◌, ℕ, Bool, true, false, List, [], ◌∷◌, Option, Some, None, map, subst, sym, arith, if◌then◌else◌}
use Rattle.std.specs.Prelude.{◌&&◌, bytes_eq, codes, IfOk, Result, Ok, Err, Vec}
use Rattle.std.specs.declared.alloc.Global.{Global}
use Rattle.rdx_sexp.specs.Sexp.{Sexp, Sexps, leaf, list, nil, cons, sexps}
use Rattle.rdx_sexp.specs.Size.{sexps_depth, IsSpelledSexp, AreSpelled}
use Rattle.rdx_term.specs.declared.error.NoMemory.{NoMemory}
use Rattle.rdx_patterns.specs.Kinds.{is_among}
use Rattle.rdx_patterns.specs.Parts.{parts, listed, is_symbol, is_word, text_of}
use Rattle.rdx_relations.specs.Expansion.{replaced, replaced_in, by_shortcut, once_expanded, expanded_case, settled, expanded_by, used_shortcuts}
use Rattle.rdx_relations.specs.Inside.Filling.{deepest}
use Rattle.rdx_parts.specs.PartsHave.{AreReadable}
use Rattle.rdx_relations.specs.RelationForms.{CaseForm, case_among, case_form}
use Rattle.rdx_relations.specs.Shorthand.{Shortcut, is_new_arrow, shortcut_among, shortcut_of_lists, shortcut_form, with_shortcut, shortcuts_of, first_of_each}
use Rattle.rdx_relations.proofs.PartsOfForms.{Each}

-- ---- symbols are spelled as those of terms

abbrev Spelled : List Sexp → Type 0
Spelled ds = Each IsSpelledSexp ds

-- by the data of a list, and by a list of data
spelled-listed : (ds : Sexps) → AreSpelled ds → Spelled (listed ds)
spelled-listed nil h = tt
spelled-listed (cons d ds) h = (h.0, spelled-listed ds h.1)

listed-spelled : (ds : List Sexp) → Spelled ds → AreSpelled (sexps ds)
listed-spelled [] h = tt
listed-spelled (d ∷ ds) h = (h.0, listed-spelled ds h.1)

-- in the items of a datum
abbrev SpelledIn : Option (List Sexp) → Type 0
SpelledIn None = Unit {0}
SpelledIn (Some ds) = Spelled ds

spelled-parts : (d : Sexp) → IsSpelledSexp d → SpelledIn (parts d)
spelled-parts (leaf a s) h = tt
spelled-parts (list ds s) h = spelled-listed ds h

-- with another in place of a symbol
mutual
  spelled-replaced : (x : List ℕ) (e d : Sexp) → IsSpelledSexp e → IsSpelledSexp d → IsSpelledSexp (replaced x e d)
  spelled-replaced x e (leaf a s) h k = by_test (is_word x (leaf a s))
    where
      by_test : (b : Bool) → IsSpelledSexp (if b then e else leaf a s)
      by_test true = h
      by_test false = k
  spelled-replaced x e (list ds s) h k = spelled-in x e ds h k

  spelled-in : (x : List ℕ) (e : Sexp) (ds : Sexps) → IsSpelledSexp e → AreSpelled ds → AreSpelled (replaced_in x e ds)
  spelled-in x e nil h k = tt
  spelled-in x e (cons d ds) h k = (spelled-replaced x e d h k.0, spelled-in x e ds h k.1)

-- ---- shortcuts

record SpelledShortcut (s : Shortcut) : Type 0 where
  pub old : IsSpelledSexp s.old
  pub pattern : IsSpelledSexp s.pattern
  pub result : IsSpelledSexp s.result

abbrev SpelledSome : Option Shortcut → Type 0
SpelledSome None = Unit {0}
SpelledSome (Some s) = SpelledShortcut s

among-spelled : (x y : Option (List Sexp)) → SpelledIn x → SpelledIn y → SpelledSome (shortcut_among x y)
among-spelled None y h k = tt
among-spelled (Some []) y h k = tt
among-spelled (Some (o ∷ [])) y h k = tt
among-spelled (Some (o ∷ p ∷ [])) y h k = tt
among-spelled (Some (o ∷ p ∷ t ∷ d ∷ ds)) y h k = tt
among-spelled (Some (o ∷ p ∷ t ∷ [])) None h k = tt
among-spelled (Some (o ∷ p ∷ t ∷ [])) (Some []) h k = tt
among-spelled (Some (o ∷ p ∷ t ∷ [])) (Some (n ∷ [])) h k = tt
among-spelled (Some (o ∷ p ∷ t ∷ [])) (Some (n ∷ a ∷ [])) h k = tt
among-spelled (Some (o ∷ p ∷ t ∷ [])) (Some (n ∷ a ∷ b ∷ d ∷ ds)) h k = tt
among-spelled (Some (o ∷ p ∷ t ∷ [])) (Some (n ∷ a ∷ b ∷ [])) h k = by_test (is_symbol o && is_new_arrow n a b)
  where
    by_test : (c : Bool) → SpelledSome (if c then Some (record { old = o; pattern = p; result = t; new = n; for_pattern = a; for_result = b }) else None)
    by_test true = record { old = h.0; pattern = h.1.0; result = h.1.1.0 }
    by_test false = tt

lists-spelled : (o : Option (List Sexp)) → SpelledIn o → SpelledSome (shortcut_of_lists o)
lists-spelled None h = tt
lists-spelled (Some []) h = tt
lists-spelled (Some (c ∷ [])) h = tt
lists-spelled (Some (c ∷ n ∷ d ∷ ds)) h = tt
lists-spelled (Some (c ∷ n ∷ [])) h = among-spelled (parts c) (parts n) (spelled-parts c h.0) (spelled-parts n h.1.0)

-- of several
abbrev SpelledAll : List Shortcut → Type 0
SpelledAll [] = Unit {0}
SpelledAll (s ∷ ss) = SpelledShortcut s × SpelledAll ss

with-spelled : (o : Option Shortcut) (ss : List Shortcut) → SpelledSome o → SpelledAll ss → SpelledAll (with_shortcut o ss)
with-spelled None ss h k = k
with-spelled (Some s) ss h k = (h, k)

shortcuts-spelled : (ds : List Sexp) → Spelled ds → SpelledAll (shortcuts_of ds)
shortcuts-spelled [] h = tt
shortcuts-spelled (d ∷ ds) h = with-spelled (shortcut_form d) (shortcuts_of ds) (lists-spelled (parts d) (spelled-parts d h.0)) (shortcuts-spelled ds h.1)

firsts-spelled : (seen : List (List ℕ)) (ss : List Shortcut) → SpelledAll ss → SpelledAll (first_of_each seen ss)
firsts-spelled seen [] h = tt
firsts-spelled seen (s ∷ ss) h = by_test (is_among seen (text_of s.new)) (firsts-spelled (text_of s.new ∷ seen) ss h.1)
  where
    by_test : (b : Bool) → SpelledAll (first_of_each (text_of s.new ∷ seen) ss)
        → SpelledAll ((if b then [] else s ∷ []) ++ first_of_each (text_of s.new ∷ seen) ss)
    by_test true k = k
    by_test false k = (h.0, k)

-- ---- cases

record SpelledCase (c : CaseForm) : Type 0 where
  pub arrow : IsSpelledSexp c.arrow
  pub pattern : IsSpelledSexp c.pattern
  pub result : IsSpelledSexp c.result
  pub extras : Spelled c.extras

abbrev SpelledSomeCase : Option CaseForm → Type 0
SpelledSomeCase None = Unit {0}
SpelledSomeCase (Some c) = SpelledCase c

case-spelled : (o : Option (List Sexp)) → SpelledIn o → SpelledSomeCase (case_among o)
case-spelled None h = tt
case-spelled (Some []) h = tt
case-spelled (Some (a ∷ [])) h = tt
case-spelled (Some (a ∷ p ∷ [])) h = tt
case-spelled (Some (a ∷ p ∷ t ∷ es)) h = by_test (is_symbol a)
  where
    by_test : (b : Bool) → SpelledSomeCase (if b then Some (record { arrow = a; pattern = p; result = t; extras = es }) else None)
    by_test true = record { arrow = h.0; pattern = h.1.0; result = h.1.1.0; extras = h.1.1.1 }
    by_test false = tt

by-spelled : (s : Shortcut) (c : CaseForm) → SpelledShortcut s → SpelledCase c → SpelledCase (by_shortcut s c)
by-spelled s c h k = record {
  arrow = h.old;
  pattern = spelled-replaced (text_of s.for_pattern) c.pattern s.pattern k.pattern h.pattern;
  result = spelled-replaced (text_of s.for_result) c.result s.result k.result h.result;
  extras = k.extras;
}

once-spelled : (b : Bool) (s : Shortcut) (c : CaseForm) → SpelledShortcut s → SpelledCase c → SpelledCase (if b then by_shortcut s c else c)
once-spelled true s c h k = by-spelled s c h k
once-spelled false s c h k = k

expanded-spelled : (ss : List Shortcut) (c : CaseForm) → SpelledAll ss → SpelledCase c → SpelledCase (expanded_case ss c)
expanded-spelled [] c h k = k
expanded-spelled (s ∷ ss) c h k = once-expanded-spelled s (expanded_case ss c) h.0 (expanded-spelled ss c h.1 k)
  where
    once-expanded-spelled : (s : Shortcut) (c : CaseForm) → SpelledShortcut s → SpelledCase c → SpelledCase (once_expanded s c)
    once-expanded-spelled s c h k = once-spelled (bytes_eq (text_of s.new) (text_of c.arrow)) s c h k

settled-spelled : (b : Bool) (c x : CaseForm) → SpelledCase c → SpelledCase x
    → SpelledCase (if b then x else record { arrow = x.arrow; pattern = c.pattern; result = c.result; extras = c.extras })
settled-spelled true c x h k = k
settled-spelled false c x h k = record { arrow = k.arrow; pattern = h.pattern; result = h.result; extras = h.extras }

datum-spelled : (ss : List Shortcut) (d : Sexp) (o : Option CaseForm) → SpelledAll ss → IsSpelledSexp d → SpelledSomeCase o → IsSpelledSexp (expanded_by ss d o)
datum-spelled ss d None h k l = k
datum-spelled ss d (Some c) h k l =
    let e = settled-spelled (is_word (codes "-->") (expanded_case ss c).arrow) c (expanded_case ss c) l (expanded-spelled ss c h l) in
    let x = settled c (expanded_case ss c) in
    listed-spelled (x.arrow ∷ x.pattern ∷ x.result ∷ x.extras) (e.arrow, (e.pattern, (e.result, e.extras)))

all-spelled : (ss : List Shortcut) (ds : List Sexp) → SpelledAll ss → Spelled ds → Spelled (map (λ d. expanded_by ss d (case_form d)) ds)
all-spelled ss [] h k = tt
all-spelled ss (d ∷ ds) h k = (datum-spelled ss d (case_form d) h k.0 (case-spelled (parts d) (spelled-parts d k.0)), all-spelled ss ds h k.1)

-- ---- readable data

readable-spelled : (ds : List Sexp) → AreReadable ds → Spelled ds
readable-spelled [] h = tt
readable-spelled (d ∷ ds) h = (h.0.spelled, readable-spelled ds h.1)

shallow-readable : (ds : List Sexp) (n : ℕ) → n < 4294967296 → sexps_depth (sexps ds) ≤ n → Spelled ds → AreReadable ds
shallow-readable [] n l h k = tt
shallow-readable (d ∷ ds) n l h k =
    (record { nested = omega (arith, l, h); spelled = k.0 }, shallow-readable ds n l (omega (arith, h)) k.1)

-- what is made of readable cases and shortcuts
abbrev pub AreExpanded : List Sexp → List Sexp → List Sexp → Type 0
AreExpanded cs ds es = es ≡ map (λ d. expanded_by (used_shortcuts ds) d (case_form d)) cs

pub expanded-readable : (r : Result (Vec Sexp Global) NoMemory) (cs ds : List Sexp) → IfOk r (λ e. AreExpanded cs ds e.items)
    → IfOk r (λ e. sexps_depth (sexps e.items) ≤ deepest + 1) → IfOk r (λ e. AreReadable cs → AreReadable ds → AreReadable e.items)
expanded-readable (Ok e) cs ds h k = λ f g.
    shallow-readable e.items (deepest + 1) (omega arith) k
    (subst Spelled (sym h)
    (all-spelled (used_shortcuts ds) cs (firsts-spelled [] (shortcuts_of ds) (shortcuts-spelled ds (readable-spelled ds g)))
    (readable-spelled cs f)))
expanded-readable (Err x) cs ds h k = tt

-- by shortcuts that are those that cases use
pub expanded-so : (r : Result (Vec Sexp Global) NoMemory) (cs ds : List Sexp) (ss : List Shortcut) → ss ≡ used_shortcuts ds
    → IfOk r (λ e. e.items ≡ map (λ d. expanded_by ss d (case_form d)) cs) → IfOk r (λ e. AreExpanded cs ds e.items)
expanded-so (Ok e) cs ds ss f h = h ∙ (λ i. map (λ d. expanded_by (f i) d (case_form d)) cs)
expanded-so (Err x) cs ds ss f h = tt
