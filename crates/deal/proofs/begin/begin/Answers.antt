-- A deal that is granted is a new one, and both laws stand for it.
use Rattle.std.proofs.Common.{◌≡◌, ◌<◌, None, sym, refl, ap, ◌∙◌, subst, arith}
use Rattle.std.proofs.lemmas.Bool.{false≢true}
use Rattle.field.specs.Refusals.{refused, foremost}
use Rattle.field.proofs.Limits.{within-parts}
use Rattle.sharing.specs.Lent.{lent_plan}
use Rattle.deal.specs.Faults.{begin_rules}
use Rattle.deal.specs.Sharings.{rotated}
use Rattle.deal.specs.Calls.{is_out, is_written, fresh}
use Rattle.deal.specs.Onlooker.{Begun}
use Rattle.deal.proofs.Faults.{clear-table}
use Rattle.deal.proofs.Accounts.{all_wait, accounts}
use Rattle.deal.proofs.Laws.{begun, begin_limits, fresh_none}
use Rattle.deal.proofs.begin.begin.Goals as goal

pub invariant_of-result : goal.invariant_of-result
invariant_of-result g c =
    let o = g.F.Field.ops in
    let L = c.args.len in
    let s = c.args.store.now in
    let p = lent_plan c.lent-plan.result in
    let none : foremost (begin_rules o p L s) ≡ None = sym c.begin_fits.ensures ∙ ap refused c.in_ok-begin_fits.was in
    let limits = begin_limits o p L s (clear-table (begin_rules o p L s) none) in
    let outs = fresh_none is_out refl p.n in
    let writes = fresh_none is_written refl p.n in
    record {
      limits = limits.0;
      some = limits.1;
      size = limits.2;
      long = refl;
      below = λ j e. absurd (false≢true (sym (ap is_out (all_wait 8 j)) ∙ e));
      balance = omega (arith, outs, writes);
      most = omega arith;
    }

pub returns : goal.returns
returns g c =
    let o = g.F.Field.ops in
    let L = c.args.len in
    let s = c.args.store.now in
    let p = lent_plan c.lent-plan.result in
    let same = c.lent-plan.ensures in
    let none : foremost (begin_rules o p L s) ≡ None = sym c.begin_fits.ensures ∙ ap refused c.in_ok-begin_fits.was in
    let limits = begin_limits o p L s (clear-table (begin_rules o p L s) none) in
    let some : 0 < o.size = omega (arith, g.met.F.Field.lawful.size_least) in
    record {
      refusal = sym (subst (λ q. foremost (begin_rules o q L s) ≡ None) same none);
      state = ap (λ q. fresh c.args.mark q.t q.n L) same;
      accounts = accounts (rotated o) c.args.mark p.t p.n L (within-parts p.t p.n limits.0).2;
      onlooker = subst (λ q. Begun o (fresh c.args.mark p.t p.n L) q s) same (begun o some p c.args.mark L s none);
    }
