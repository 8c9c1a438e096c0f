-- `part` meets its contract: the parts that `split` gives are those of the text, and `nth` takes one of them.
use Rattle.std.proofs.Common.{ap, ◌∙◌, rules, tests}
use Rattle.std.specs.Prelude.{[]}
use Rattle.std.specs.Option.{unwrap_or}
use Rattle.std.proofs.lemmas.Iterator.Consumers.{nth_from_yields_List}
use Rattle.std.proofs.lemmas.Iterator.Splits.{YieldsList-from_slice_split}
use Rattle.published_lines.proofs.LawsTables.{read_after}
use Rattle.published_lines.proofs.part.Goals as goal

pub returns : goal.returns
returns c =
    let parts = YieldsList-from_slice_split _ _ c.args.text.now c.split.ensures.rest c.split.ensures.done c.split.ensures.closure (λ x b q k. search (rules, tests)) in
    ap (λ p. p.now) c.unwrap_or.ensures
    ∙ read_after (λ p. p.now) c.nth.result _
    ∙ ap (λ o. unwrap_or o []) (nth_from_yields_List _ _ _ c.nth.ensures.ran parts)
