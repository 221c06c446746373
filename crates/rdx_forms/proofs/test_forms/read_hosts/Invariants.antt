use Rattle.std.proofs.Common.{drop, map, option_map}
use Rattle.rdx_lang.specs.TemplateView.{host_of}
use Rattle.rdx_patterns.specs.Refusal.{refusal_of}
use Rattle.rdx_templates.specs.Scope.{scope_of}
use Rattle.rdx_forms.proofs.TestChecks.{HostsSoFar}
use Rattle.rdx_forms.proofs.test_forms.read_hosts.Given as goal

abbrev pub invariant-loop-host : goal.invariant-loop-host
invariant-loop-host l = HostsSoFar (scope_of l.scope) l.hosts (drop l.host-index l.hosts) (option_map refusal_of l.refusal) (map host_of l.read.items)
