use Rattle.std.proofs.Common.{◌≡◌, ◌+◌, drop, length, map}
use Rattle.rdx_lang.specs.PatternView.{definition_of}
use Rattle.rdx_lang.specs.declared.pattern.Ref.{Ref}
use Rattle.rdx_leftrec.specs.Inside.Index.{place_in}
use Rattle.rdx_leftrec.specs.Inside.Leads.{place}
use Rattle.rdx_leftrec.proofs.nonterminals.Nonterminals.new.Given as goal

abbrev pub invariant-loop-place : goal.invariant-loop-place
invariant-loop-place l = (x : Ref) → place_in l.index.texts l.index.pairs (length l.language.nts.items) x
    ≡ l.place + place x (map (λ d. d.0) (map definition_of (drop l.place l.language.nts.items)))
