-- `bench::show::trace_place` meets its contract: nothing, or its line, that of its links and that of its query.
-- Assumes nothing.
use Rattle.bench.proofs.Outputs.{all_three}
use Rattle.bench.specs.Output.{put_all, short}
use Rattle.bench.specs.Trace.{links_lines, place_line, place_lines, query_lines}
use mathlib.Core.List.{[], ◌∷◌}
use mathlib.Core.Path.{sym, ◌∙◌}
use Rattle.bench.proofs.show.trace_place.Goals as goal

pub returns-then-is_free : goal.returns-then-is_free
unfolding place_lines put_all
returns-then-is_free c = rw (sym c.is_free.ensures ∙ c.if-is_free.true)

pub returns : goal.returns
unfolding place_lines put_all
returns c =
    let a = c.args in
    rw (sym c.is_free.ensures ∙ c.if-is_free.false)
    (all_three (short (place_line a.place a.p) ∷ []) (links_lines a.place a.p) (query_lines a.place a.p) _ _ _ _ c.write_place-next.ensures c.trace_links-after.ensures c.trace_query.ensures)
