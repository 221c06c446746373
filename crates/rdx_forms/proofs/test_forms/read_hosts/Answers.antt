use Rattle.std.proofs.Common.{[], ◌∷◌, Some, Err, ◌++◌, drop, map, option_map, ◌+◌, sym, subst, ap, ◌∙◌}
use Rattle.std.proofs.lemmas.List.{map-append}
use Rattle.rdx_lang.specs.TemplateView.{host_of}
use Rattle.rdx_patterns.specs.Refusal.{refusal_of}
use Rattle.rdx_templates.specs.Answers.{ReadsHost}
use Rattle.rdx_templates.specs.Scope.{scope_of}
use Rattle.rdx_forms.proofs.TestChecks.{hosts-same, hosts-read, hosts-kept}
use Rattle.rdx_forms.proofs.test_forms.read_hosts.Goals as goal
use Rattle.rdx_forms.proofs.test_forms.read_hosts.Goals.{in-Ok+in_ok-push-in-Ok, in-Err-Refused}

pub loop-host-preserved : goal.loop-host-preserved
loop-host-preserved c =
    let S = scope_of c.args.scope.now in
    let all = c.args.hosts.now in
    let i = c.loop-host.host-index in
    let d = c.host-item.result in
    let kept = option_map refusal_of c.loop-host.refusal in
    let read = map host_of c.loop-host.read.items in
    elim c.match-read_unbound.branch [
      | in-Ok+in_ok-push-in-Ok w ↦
          hosts-same S all (drop (i + 1) all) kept (option_map refusal_of c.match-read_unbound.refusal) (read ++ host_of w.in-Ok.host ∷ [])
          (map host_of c.match-read_unbound.read.items) (ap (option_map refusal_of) (sym w.refusal-is))
          (sym (map-append host_of c.loop-host.read.items (w.in-Ok.host ∷ [])) ∙ ap (map host_of) (sym w.in_ok-push-in-Ok.ensures.items)
          ∙ ap (λ v. map host_of v.items) (sym w.read-is))
          (hosts-read S all i d kept read c.loop-host-test.true c.host-item.is w.in-Ok.host (subst (ReadsHost S [] d) w.in-Ok.is c.read_unbound.ensures)
          c.loop-host.invariant)
      | in-Err-Refused w ↦
          hosts-same S all (drop (i + 1) all) (Some (refusal_of w.reported.result)) (option_map refusal_of c.match-read_unbound.refusal) read
          (map host_of c.match-read_unbound.read.items) (ap (option_map refusal_of) (sym w.refusal-is)) (ap (λ v. map host_of v.items) (sym w.read-is))
          (hosts-kept S all i d kept read c.loop-host-test.true c.host-item.is (refusal_of w.in-Err-Refused.other) (Some (refusal_of w.reported.result))
          (subst (ReadsHost S [] d) (w.in-Err-Refused.is ∙ ap Err w.in-Err-Refused.field-0-is) c.read_unbound.ensures) w.reported.ensures
          c.loop-host.invariant)
    ]
