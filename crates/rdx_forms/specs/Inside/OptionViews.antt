-- What the options of the code stand for.
use Rattle.std.specs.Prelude.{Bool, true, false, List, [], ◌∷◌, ◌++◌}
use Rattle.rdx_forms.specs.Options as model
use Rattle.rdx_forms.specs.declared.options.OptionKind.{OptionKind}
use Rattle.rdx_forms.specs.declared.options.OptionKind.TheVariants.{Seed, Attempts}
use Rattle.rdx_forms.specs.declared.options.Open.{Open}

abbrev pub kind_of : OptionKind → model.OptionKind
kind_of Seed = model.seed_option
kind_of Attempts = model.attempts_option

-- this option, where it may come
abbrev pub where_open : Bool → model.OptionKind → List model.OptionKind
where_open true o = o ∷ []
where_open false o = []

-- the options that may come
abbrev pub kinds_of : Open → List model.OptionKind
kinds_of a = where_open a.attempts model.attempts_option ++ where_open a.seed model.seed_option
