use Rattle.std.proofs.Common.{◌++◌, [], List, map, ap, ◌∙◌, if◌then◌else◌}
use Rattle.std.specs.List.{list_any}
use Rattle.std.specs.Prelude.{◌||◌, bytes_eq}
use Rattle.rdx_lang.specs.Crosses as model
use Rattle.rdx_lang.specs.PatternView.{definition_of, language_of}
use Rattle.rdx_lang.specs.Patterns.{Definition}
use Rattle.rdx_lang.specs.References.{is_among}
use Rattle.rdx_lang.specs.declared.pattern.Ref.TheVariants.{Nt, Cross}
use Rattle.rdx_patterns.specs.Found.{heads}
use Rattle.rdx_patterns.specs.Inside.CrossesTo.{language_among}
use Rattle.rdx_patterns.specs.Inside.Repeats.{texts_in}
use Rattle.rdx_patterns.proofs.SeveralWays.{passed-next}
use Rattle.rdx_patterns.proofs.crosses.completion.new_crosses_of.Goals as goal

pub loop-from-preserved : goal.loop-from-preserved
loop-from-preserved c =
    let w = c.loop-from-item.result in
    let seen = texts_in c.loop-from.seen in
    let old : List Definition = map definition_of c.loop-from.added.items in
    let mid : List Definition = map definition_of c.add_crosses_once.new.added.items in
    let of_language = c.in_ok-definitions.ensures ∙ c.deref.ensures.value in
    passed-next (language_of c.args.language.now) c.args.ways.now c.loop-from.from-index w seen (texts_in c.add_crosses_once.new.seen) old mid
    (map definition_of c.add_from_elsewhere.new.added.items) c.loop-from-test.true c.loop-from-item.is
    (c.in_ok-add_crosses_once.ensures.added
    ∙ ap (λ defs. old ++ (if list_any (bytes_eq w.1) seen then [] else model.new_crosses (language_among (map definition_of defs)) w.1)) of_language)
    (c.in_ok-add_from_elsewhere.ensures
    ∙ ap (λ defs. mid ++ (if is_among (Nt w.0) (heads (map definition_of defs)) || is_among (Cross w.0 w.1) (heads mid) then []
    else model.new_cross (language_among (map definition_of defs)) w.1 w.0)) of_language)
    c.in_ok-add_crosses_once.ensures.seen c.loop-from.invariant
