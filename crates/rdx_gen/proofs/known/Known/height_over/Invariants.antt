use Rattle.std.proofs.Common.{◌≡◌, drop, map}
use Rattle.rdx_lang.specs.PatternView.{patterns_of}
use Rattle.rdx_gen.specs.Heights as model
use Rattle.rdx_gen.specs.KnownView.{known_of}
use Rattle.rdx_gen.proofs.known.Known.height_over.Given as goal

abbrev pub invariant-loop-pat : goal.invariant-loop-pat
invariant-loop-pat l = record {
  as_term : model.least_of l.as_term (map (model.term_height (known_of l.self)) (patterns_of (drop l.pat-index l.pats))) ≡ model.least (map (model.term_height (known_of l.self)) (patterns_of l.pats));
  as_context : model.least_of l.as_context (map (model.context_height (known_of l.self)) (patterns_of (drop l.pat-index l.pats))) ≡ model.least (map (model.context_height (known_of l.self)) (patterns_of l.pats));
}
