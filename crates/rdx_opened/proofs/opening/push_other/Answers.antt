use Rattle.std.proofs.Common.{◌∙◌, ◌++◌, List, append-nil, refl, sym, ap}
use Rattle.std.proofs.lemmas.Result.{on_ok_weaker}
use Rattle.rdx_lang.specs.Bindings.{Pair}
use Rattle.rdx_lang.specs.BindingView.{pair_of, pairs_of}
use Rattle.rdx_lang.specs.Inside.Texts.{texts_in}
use Rattle.rdx_lang.proofs.TextSets.{found-texts}
use Rattle.rdx_opened.proofs.Closing.{without_other, without_taken}
use Rattle.rdx_opened.proofs.opening.push_other.Goals as goal

pub returns-then-contains : goal.returns-then-contains
returns-then-contains c =
    let found = found-texts c.text.result c.args.pair.now.0 c.args.texts.now (texts_in c.args.texts.now) c.contains.result c.contains.ensures
    c.text.ensures.value (λ x. refl) in
    sym (ap (λ (ps : List Pair). pairs_of c.args.pairs.now.items ++ ps)
    (without_taken (texts_in c.args.texts.now) (pair_of c.args.pair.now) (found ∙ c.if-contains.true)) ∙ append-nil (pairs_of c.args.pairs.now.items))

pub returns-else-contains : goal.returns-else-contains
returns-else-contains c =
    let found = found-texts c.text.result c.args.pair.now.0 c.args.texts.now (texts_in c.args.texts.now) c.contains.result c.contains.ensures
    c.text.ensures.value (λ x. refl) in
    on_ok_weaker c.push_pair.result
    (λ h. h ∙ sym (ap (λ (ps : List Pair). pairs_of c.args.pairs.now.items ++ ps)
    (without_other (texts_in c.args.texts.now) (pair_of c.args.pair.now) (found ∙ c.if-contains.false))))
    c.push_pair.ensures
