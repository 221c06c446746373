use Rattle.std.proofs.Common.{◌≡◌, ◌++◌, drop, map}
use Rattle.rdx_lang.specs.TemplateView.{template_of}
use Rattle.rdx_lang.proofs.sharing.templates.share_templates.Given as goal

abbrev pub invariant-loop-template : goal.invariant-loop-template
invariant-loop-template l = map template_of l.shared.items ++ map template_of (drop l.template-index l.templates) ≡ map template_of l.templates
