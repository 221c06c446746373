-- What is known of heights, as plain data.
use Rattle.rdx_lang.specs.Checked.{language_in}
use Rattle.rdx_gen.specs.Heights as model
use Rattle.rdx_gen.specs.declared.known.Known.{Known}

-- what stands for what the code knows
abbrev pub known_of : Known → model.Known
known_of k = record { definitions = (language_in k.nonterminals.now.language.now).nonterminals; heights = k.heights.now }
