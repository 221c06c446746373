-- What repeats depends on the texts that a check for repeated nonterminals has seen.
use Rattle.std.proofs.Common.{◌≡◌, ◌++◌, ℕ, ◌+◌, ◌<◌, List, [], ◌∷◌, get_or, length, map, drop, None, refl, ap, sym, ◌∙◌}
use Rattle.std.specs.Prelude.{◌||◌, bytes_eq}
use Rattle.rdx_lang.proofs.Rest.{rest_at}
use Rattle.rdx_grammar.specs.Checks.{repeats, repeated, seen_with}
use Rattle.rdx_patterns.specs.Inside.Repeats.{HaveSame}
use Rattle.rdx_patterns.specs.Parts.{text_of}
use Rattle.rdx_patterns.specs.PatternChecks.{when}
use Rattle.rdx_patterns.specs.Refusal.{first, or_else}
use Rattle.rdx_grammar.specs.Stands.{Stand, misshaped, defined, nonterminal, alternative, inherited}
use Rattle.rdx_patterns.proofs.Firsts.{first-append}

-- what repeats depends on the texts alone that were seen
repeats-same : (xs ys : List (List ℕ)) (ss : List Stand) → HaveSame xs ys → repeats xs ss ≡ repeats ys ss
repeats-same xs ys [] h = refl
repeats-same xs ys (misshaped d ∷ ss) h = repeats-same xs ys ss h
repeats-same xs ys (defined d ∷ ss) h = repeats-same xs ys ss h
repeats-same xs ys (nonterminal d ∷ ss) h =
    let k = repeats-same (text_of d ∷ xs) (text_of d ∷ ys) ss (λ x. ap (λ b. bytes_eq x (text_of d) || b) (h x)) in
    λ i. when (h (text_of d) i) d ++ k i
repeats-same xs ys (alternative os ∷ ss) h = repeats-same xs ys ss h
repeats-same xs ys (inherited d names again ∷ ss) h = repeats-same xs ys ss h

-- where a stand repeats nothing, what repeats from it on repeats behind it
pub repeats-later : {C : Type 0} (v : C → Stand) (cs : List C) (i : ℕ) (c : C) (xs ys : List (List ℕ)) → i < length cs → c ≡ get_or cs i c
    → first (repeated xs (v c)) ≡ None → HaveSame ys (seen_with xs (v c))
    → first (repeats xs (map v (drop i cs))) ≡ first (repeats ys (map v (drop (i + 1) cs)))
repeats-later v cs i c xs ys h e none same =
    let rest = map v (drop (i + 1) cs) in
    ap (λ ss. first (repeats xs ss)) (rest_at v cs i c h e)
    ∙ first-append (repeated xs (v c)) (repeats (seen_with xs (v c)) rest)
    ∙ ap (λ o. or_else o (first (repeats (seen_with xs (v c)) rest))) none
    ∙ ap first (sym (repeats-same ys (seen_with xs (v c)) rest same))
