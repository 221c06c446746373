-- Rules in contexts: a pattern in a context is well formed where both are and the name of the context is none of the pattern's.
use Rattle.std.proofs.Common.{◌≡◌, ℕ, Bool, true, false, List, [], ◌∷◌, ◌++◌, map, refl, sym, ◌∙◌, ap}
use Rattle.std.proofs.lemmas.List.{map-append}
use Rattle.std.specs.Bool.{beq}
use Rattle.std.specs.Cmp.{first_so, second_so}
use Rattle.std.specs.List.{list_all, list_any}
use Rattle.std.specs.Prelude.{◌&&◌, ◌||◌, not, bytes_eq, nat_eq}
use Rattle.rdx_lang.specs.Closures.{rule_names}
use Rattle.rdx_lang.specs.Depths.{Use, uses, name_use, agree, all_agree, is_shallow, has_one_depth_each, closed_parts_fit, has_fitting_names}
use Rattle.rdx_lang.specs.Patterns.{Pattern, Language, nt, named, in_hole, closed}
use Rattle.rdx_lang.specs.Programs.{Rule}
use Rattle.rdx_lang.specs.References.{is_among}
use Rattle.rdx_lang.specs.Scopes.{extras_uses}
use Rattle.rdx_lang.specs.WellFormed.{defined, has_known_nonterminals, is_well_formed, is_well_formed_in}
use Rattle.rdx_lang.specs.declared.pattern.Ref.{Ref}
use Rattle.rdx_lang.proofs.LookupLaws.{both_so}

-- the use of a name that is none of theirs agrees with each of these
agrees : (x : List ℕ) (us : List Use) → list_any (bytes_eq x) (map (λ u. u.name) us) ≡ false → list_all (agree (name_use 0 x)) us ≡ true
agrees x [] h = refl
agrees x (u ∷ us) h = by_test (bytes_eq x u.name) refl h (agrees x us)
  where
    by_test : (b : Bool) → bytes_eq x u.name ≡ b → (b || list_any (bytes_eq x) (map (λ u. u.name) us)) ≡ false
        → (list_any (bytes_eq x) (map (λ u. u.name) us) ≡ false → list_all (agree (name_use 0 x)) us ≡ true)
        → (agree (name_use 0 x) u && list_all (agree (name_use 0 x)) us) ≡ true
    by_test true e k f = absurd cc
    by_test false e k f =
        both_so (agree (name_use 0 x) u) (list_all (agree (name_use 0 x)) us) (ap (λ b. not b || (nat_eq 0 u.depth && beq false u.is_length)) e)
        (f k)

-- what is none of the members of both lists is none of the first's
none_of_first : (x : List ℕ) (ys zs : List (List ℕ)) → list_any (bytes_eq x) (ys ++ zs) ≡ false → list_any (bytes_eq x) ys ≡ false
none_of_first x [] zs h = refl
none_of_first x (y ∷ ys) zs h = by_test (bytes_eq x y) h (none_of_first x ys zs)
  where
    by_test : (b : Bool) → (b || list_any (bytes_eq x) (ys ++ zs)) ≡ false
        → (list_any (bytes_eq x) (ys ++ zs) ≡ false → list_any (bytes_eq x) ys ≡ false) → (b || list_any (bytes_eq x) ys) ≡ false
    by_test true k f = absurd cc
    by_test false k f = f k

-- where two patterns are well formed, so is the second in a context by the first, whose name is none of the second's
in_context-well_formed : (xs : List Ref) (x : List ℕ) (p q : Pattern) → is_well_formed xs p ≡ true → is_well_formed xs q ≡ true
    → list_any (bytes_eq x) (map (λ u. u.name) (uses 0 q)) ≡ false → is_well_formed xs (in_hole (named x (closed p)) q) ≡ true
in_context-well_formed xs x p q h k free =
    let whole : Pattern = in_hole (named x (closed p)) q in
    let hp : has_known_nonterminals xs p ≡ true = first_so (has_known_nonterminals xs p) (has_fitting_names p) h in
    let fp : has_fitting_names p ≡ true = second_so (has_known_nonterminals xs p) (has_fitting_names p) h in
    let hq : has_known_nonterminals xs q ≡ true = first_so (has_known_nonterminals xs q) (has_fitting_names q) k in
    let fq : has_fitting_names q ≡ true = second_so (has_known_nonterminals xs q) (has_fitting_names q) k in
    let dq : has_one_depth_each q ≡ true = first_so (has_one_depth_each q) (closed_parts_fit q) fq in
    let cq : closed_parts_fit q ≡ true = second_so (has_one_depth_each q) (closed_parts_fit q) fq in
    let aq : all_agree (uses 0 q) ≡ true = first_so (all_agree (uses 0 q)) (list_all is_shallow (uses 0 q)) dq in
    let sq : list_all is_shallow (uses 0 q) ≡ true = second_so (all_agree (uses 0 q)) (list_all is_shallow (uses 0 q)) dq in
    let a : all_agree (uses 0 whole) ≡ true =
    both_so (list_all (agree (name_use 0 x)) (uses 0 q)) (all_agree (uses 0 q)) (agrees x (uses 0 q) free) aq in
    let d : has_one_depth_each whole ≡ true = both_so (all_agree (uses 0 whole)) (list_all is_shallow (uses 0 whole)) a sq in
    let c : closed_parts_fit whole ≡ true = both_so (has_fitting_names p) (closed_parts_fit q) fp cq in
    both_so (has_known_nonterminals xs whole) (has_fitting_names whole) (both_so (has_known_nonterminals xs p) (has_known_nonterminals xs q) hp hq)
    (both_so (has_one_depth_each whole) (closed_parts_fit whole) d c)

-- so is the pattern of a rule in a context whose name the rule does not bind
pub rule_in_context-well_formed : (L : Language) (p : Pattern) (r : Rule) (x : List ℕ) → is_well_formed_in L p ≡ true
    → is_well_formed_in L r.pattern ≡ true → list_any (bytes_eq x) (rule_names r) ≡ false
    → is_well_formed_in L (in_hole (named x (closed p)) r.pattern) ≡ true
rule_in_context-well_formed L p r x h k free =
    in_context-well_formed (defined L) x p r.pattern h k
    (none_of_first x (map (λ u. u.name) (uses 0 r.pattern)) (map (λ u. u.name) (extras_uses r.extras))
    (ap (list_any (bytes_eq x)) (sym (map-append (λ (u : Use). u.name) (uses 0 r.pattern) (extras_uses r.extras))) ∙ free))

-- a nonterminal of the language is a well-formed pattern
pub nonterminal-well_formed : (L : Language) (x : Ref) → is_among x (defined L) ≡ true → is_well_formed_in L (nt x) ≡ true
nonterminal-well_formed L x h = both_so (is_among x (defined L)) true h refl
