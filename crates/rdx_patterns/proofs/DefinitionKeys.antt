-- Definitions that are put into a map by what their nonterminals go by.
use Rattle.std.proofs.Common.{◌≡◌, ◌+◌, ◌<◌, ℕ, length, drop, get_or, Bool, true, false, cond, List, [], ◌∷◌, Option, Some, None, Vec, map, refl, sym, ◌∙◌, ap, if◌then◌else◌, HashMap, Bor}
use Rattle.std.specs.Bool.{then_some}
use Rattle.std.specs.HashMap.{Updates, get}
use Rattle.std.specs.Prelude.{◌&&◌, ◌||◌, bytes_eq, is_some, option_map}
use Rattle.std.specs.declared.alloc.Global.{Global}
use Rattle.rdx_lang.proofs.LookupLaws.{is_same-equal}
use Rattle.rdx_lang.proofs.Rest.{rest_at}
use Rattle.rdx_lang.specs.Lookup.{alternatives_among, alternatives_of}
use Rattle.rdx_lang.specs.PatternView.{patterns_of, definition_of}
use Rattle.rdx_lang.specs.Patterns.{Definition, Language}
use Rattle.rdx_lang.specs.References.{is_same, is_among}
use Rattle.rdx_lang.specs.declared.pattern.Pat.{Pat}
use Rattle.rdx_lang.specs.declared.pattern.Ref.{Ref}
use Rattle.rdx_lang.specs.declared.pattern.Ref.TheVariants.{Nt, Cross}
use Rattle.rdx_patterns.specs.Found.{heads, found_among}
use Rattle.rdx_patterns.specs.Inside.Adding.{AddsFirst}
use Rattle.rdx_patterns.specs.Model.Keys.{Key, named_by, same_key, key_of, found_in}
use Rattle.rdx_patterns.specs.Refusal.{or_else}
use Rattle.rdx_patterns.proofs.Among.{bytes_eq-sym}

-- ---- keys

-- one test beside one that holds, and beside one that doesn't
and_so : (a : Bool) → (a && true) ≡ a
and_so true = refl
and_so false = refl

and_not : (a : Bool) → (a && false) ≡ false
and_not true = refl
and_not false = refl

-- the keys of the same nonterminals are the same
same_key-named : (k : Key) (x : Ref) → same_key k (key_of x) ≡ is_same x (named_by k.0.now k.1)
same_key-named (a, None) (Nt x) = and_so (bytes_eq a.now x) ∙ bytes_eq-sym a.now x
same_key-named (a, None) (Cross x y) = and_not (bytes_eq a.now x)
same_key-named (a, Some b) (Nt x) = and_not (bytes_eq a.now x)
same_key-named (a, Some b) (Cross x y) = λ i. bytes_eq-sym a.now x i && bytes_eq-sym b.now y i

-- a key finds what its nonterminal does
get-named : {X S : Type 0} (m : HashMap Key X S) (k : Key) → get same_key m k ≡ get same_key m (key_of (named_by k.0.now k.1))
get-named m (a, None) = refl
get-named m (a, Some b) = refl

-- ---- one definition more

-- nothing else is found otherwise
or_none : {A : Type 0} (o : Option A) → o ≡ or_else o None
or_none None = refl
or_none (Some x) = refl

-- where nothing is found
pub none_where : {A : Type 0} (o : Option A) → is_some o ≡ false → o ≡ None
none_where None e = refl
none_where (Some x) e = absurd cc

-- what is put in where nothing was found is found
pub adds-new : {S : Type 0} (old new : HashMap Key (Bor (List Pat)) S) (k : Key) (v : Bor (List Pat)) → get same_key old k ≡ None
    → Updates same_key old new k (Some v) → AddsFirst old new (named_by k.0.now k.1) (patterns_of v.now)
adds-new old new k v n u y =
    ap (option_map (λ ps. patterns_of ps.now)) (u.0 (key_of y) ∙ ap (λ b. cond b (Some v) (get same_key old (key_of y))) (same_key-named k y))
    ∙ by_test (is_same y x) refl
  where
    x : Ref
    x = named_by k.0.now k.1

    by_test : (b : Bool) → is_same y x ≡ b → option_map (λ ps. patterns_of ps.now) (cond b (Some v) (get same_key old (key_of y)))
        ≡ or_else (found_in old y) (then_some b (patterns_of v.now))
    by_test true e =
        let f : found_in old y ≡ None =
        ap (found_in old) (is_same-equal y x e) ∙ ap (option_map (λ ps. patterns_of ps.now)) (sym (get-named old k) ∙ n) in
        ap (λ o. or_else o (Some (patterns_of v.now))) (sym f)
    by_test false e = or_none (found_in old y)

-- ---- the definitions behind

-- the first of three
or_assoc : {A : Type 0} (o p q : Option A) → or_else (or_else o p) q ≡ or_else o (or_else p q)
or_assoc None p q = refl
or_assoc (Some x) p q = refl

-- the alternatives of the first definition, or of those behind it
found_among-cons : (d : Definition) (ds : List Definition) (x : Ref) → found_among (d ∷ ds) x ≡ or_else (then_some (is_same x d.0) d.1) (found_among ds x)
found_among-cons d ds x = by_test (is_same x d.0)
  where
    by_test : (b : Bool) → (if b || is_among x (heads ds) then Some (if b then d.1 else alternatives_among ds x) else None)
        ≡ or_else (then_some b d.1) (found_among ds x)
    by_test true = refl
    by_test false = refl

-- with a definition put in, what is found, or else is defined behind it, stays the same
pub adds-next : {S : Type 0} (old new : HashMap Key (Bor (List Pat)) S) (ds : List (Ref × Vec Pat Global)) (i : ℕ) (d : Ref × Vec Pat Global)
    → i < length ds → d ≡ get_or ds i d → AddsFirst old new d.0 (patterns_of d.1.items) → (x : Ref)
    → or_else (found_in new x) (found_among (map definition_of (drop (i + 1) ds)) x) ≡ or_else (found_in old x) (found_among (map definition_of (drop i ds)) x)
adds-next old new ds i d h e a x =
    let rest = map definition_of (drop (i + 1) ds) in
    ap (λ o. or_else o (found_among rest x)) (a x)
    ∙ or_assoc (found_in old x) (then_some (is_same x d.0) (patterns_of d.1.items)) (found_among rest x)
    ∙ ap (or_else (found_in old x)) (sym (found_among-cons (definition_of d) rest x) ∙ ap (λ (cs : List Definition). found_among cs x) (sym (rest_at definition_of ds i d h e)))

-- ---- what is not found

-- where nothing is found, there are no alternatives
found-nothing : (ds : List Definition) (x : Ref) → found_among ds x ≡ None → [] ≡ alternatives_among ds x
found-nothing [] x e = refl
found-nothing (d ∷ ds) x e = by_test (is_same x d.0) (found-nothing ds x) e
  where
    by_test : (b : Bool) → (found_among ds x ≡ None → [] ≡ alternatives_among ds x)
        → (if b || is_among x (heads ds) then Some (if b then d.1 else alternatives_among ds x) else None) ≡ None
        → [] ≡ (if b then d.1 else alternatives_among ds x)
    by_test true f g = absurd cc
    by_test false f g = f g

-- of definitions that are looked up too
pub nothing-among : (ds : List Definition) (x : Ref) (o : Option (Bor (List Pat)))
    → option_map (λ ps. patterns_of ps.now) o ≡ found_among ds x → o ≡ None → [] ≡ alternatives_among ds x
nothing-among ds x o f n = found-nothing ds x (sym f ∙ ap (option_map (λ ps. patterns_of ps.now)) n)

-- something is found where the nonterminal is defined
pub found-defined : (ds : List Definition) (x : Ref) (o : Option (Bor (List Pat)))
    → option_map (λ ps. patterns_of ps.now) o ≡ found_among ds x → is_some o ≡ is_among x (heads ds)
found-defined ds x o f = by_option o ∙ ap is_some f ∙ by_test (is_among x (heads ds))
  where
    by_option : (p : Option (Bor (List Pat))) → is_some p ≡ is_some (option_map (λ ps. patterns_of ps.now) p)
    by_option None = refl
    by_option (Some ps) = refl

    by_test : (b : Bool) → is_some (if b then Some (alternatives_among ds x) else None) ≡ b
    by_test true = refl
    by_test false = refl

-- nor in the language that has these definitions
pub nothing-of : (L : Language) (ds : List Definition) (x : Ref) (o : Option (Bor (List Pat))) → ds ≡ L.nonterminals
    → option_map (λ ps. patterns_of ps.now) o ≡ found_among ds x → o ≡ None → [] ≡ alternatives_of L x
nothing-of L ds x o e f n =
    found-nothing ds x (sym f ∙ ap (option_map (λ ps. patterns_of ps.now)) n) ∙ ap (λ (es : List Definition). alternatives_among es x) e
