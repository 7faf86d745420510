-- The first line at fault, or the store of the key and the dummy keys.
use Rattle.std.proofs.Common.{◌≡◌, ◌-◌, ◌++◌, length, vec_items, ap, ◌∙◌, subst}
use Rattle.lines.specs.Digits.{spelled}
use Rattle.lines.specs.Readers.{left, standing}
use Rattle.lines.specs.declared.wanted.Wanted.TheVariants as wanted
use Rattle.programs.specs.Keys.Unkeyed.{no_key, no_dummy}
use Rattle.programs.specs.Texts.{Broken}
use Rattle.programs.proofs.Chain.{passes_on}
use Rattle.programs.proofs.store.read_store.Goals as goal

pub returns-in_err-head : goal.returns-in_err-head
returns-in_err-head c =
    passes_on c.from_residual.result _ _ _ _ c.from_residual.ensures.1 (λ a u. no_key u.0 u.1 u.2) c.in_err-head.ensures

pub returns-in_err-read_block : goal.returns-in_err-read_block
returns-in_err-read_block c =
    let head = c.in_ok-head.head in
    let key = spelled head.key.digits.now in
    let mid = left (standing c.read_key.new.reader) in
    let pushed : vec_items c.push_part.new.numbers ≡ key = c.in_ok-push_part.ensures ∙ ap (λ l. l ++ key) c.new-store.ensures.items in
    let size : c.len-size.result ≡ length key = c.len-size.ensures ∙ c.push_part.new.numbers.ok.0 ∙ ap length pushed in
    passes_on c.from_residual-in_err-read_block.result _ _ _ _ c.from_residual-in_err-read_block.ensures.1
    (λ a b. no_dummy head.mark.number key mid c.in_ok-head.ensures b.0 b.1
    (subst (λ w. Broken w (c.args.t - 1) b.0 mid b.1) (c.a_dummy.ensures ∙ ap (λ s. wanted.Dummy c.args.t s) size) b.2) b.3)
    c.in_err-read_block.ensures
