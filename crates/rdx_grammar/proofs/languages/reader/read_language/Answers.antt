use Rattle.std.proofs.Common.{sym, subst}
use Rattle.rdx_grammar.specs.Inside.CheckedForms.{AreSpelledIn, AreShallowIn}
use Rattle.rdx_grammar.proofs.ShallowParts.{AreShallowIn-language}
use Rattle.rdx_grammar.proofs.SpelledParts.{AreSpelledIn-language}
use Rattle.rdx_grammar.proofs.languages.reader.read_language.Goals as goal

pub read_form-requires-clause-spelled : goal.read_form-requires-clause-spelled
read_form-requires-clause-spelled c = subst AreSpelledIn (sym c.language_form.ensures) (AreSpelledIn-language c.args.form.now c.requires.spelled)

pub read_form-requires-clause-shallow : goal.read_form-requires-clause-shallow
read_form-requires-clause-shallow c = subst AreShallowIn (sym c.language_form.ensures) (AreShallowIn-language c.args.form.now c.requires.nested)
