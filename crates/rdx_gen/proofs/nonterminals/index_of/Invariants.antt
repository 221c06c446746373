use Rattle.std.proofs.Common.{◌≡◌, ◌+◌, drop, length, map}
use Rattle.rdx_lang.specs.PatternView.{definition_of}
use Rattle.rdx_lang.specs.declared.pattern.Ref.{Ref}
use Rattle.rdx_gen.specs.Inside.Index.{place_in}
use Rattle.rdx_gen.specs.Inside.Places.{place}
use Rattle.rdx_gen.proofs.nonterminals.index_of.Given as goal

abbrev pub invariant-loop-place : goal.invariant-loop-place
invariant-loop-place l = (x : Ref) → place_in l.index.texts l.index.pairs (length l.definitions) x
    ≡ l.place + place x (map (λ d. d.0) (map definition_of (drop l.place l.definitions)))
