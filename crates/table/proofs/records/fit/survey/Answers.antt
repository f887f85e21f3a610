-- `table::records::fit::survey` meets its contract: each walk over the places finds what is asked of it.
-- Assumes nothing.
use Rattle.std.proofs.Common.{◌≡◌, rules, tests, sym, ◌∙◌}
use Rattle.std.proofs.lemmas.Iterator.{YieldsList-from_slice}
use Rattle.std.proofs.lemmas.Iterator.Consumers.{YieldsList-at, YieldsList-from_filter, count_from_yields_List}
use Rattle.std.proofs.lemmas.Iterator.Search.{all_from_yields_List, find_from_yields_List}
use Rattle.peer.specs.Fit.{place_fits}
use Rattle.peer.specs.Record.{is_joined, associates}
use Rattle.table.proofs.Passes.Listed.{all_listed, count_listed, lent_joined}
use Rattle.table.specs.Fit.{crowd_of}
use Rattle.table.specs.Places.{count_of}
use Rattle.table.proofs.records.fit.survey.Goals as goal

pub returns : goal.returns
unfolding crowd_of
returns c =
    let joined : c.count.result ≡ count_of is_joined c.args.t =
    count_from_yields_List c.filter.result _ c.count.ensures.ran (YieldsList-from_filter _ is_joined (YieldsList-at c.filter.ensures.source (YieldsList-from_slice c.args.t cc)) c.filter.ensures.closure (λ x b q k. search (rules, tests)))
    ∙ count_listed is_joined c.args.t in
    let associating : c.count-2.result ≡ count_of associates c.args.t =
    count_from_yields_List c.filter-2.result _ c.count-2.ensures.ran (YieldsList-from_filter _ associates (YieldsList-at c.filter-2.ensures.source (YieldsList-from_slice c.args.t cc)) c.filter-2.ensures.closure (λ x b q k. search (rules, tests)))
    ∙ count_listed associates c.args.t in (
      all_from_yields_List (place_fits c.args.s) _ _ c.all.result c.all.ensures.ran (YieldsList-from_slice c.args.t cc) (λ x b q k. search (rules, tests)) ∙ sym (all_listed (place_fits c.args.s) c.args.t),
      rw (joined, associating),
      lent_joined c.args.t _ (find_from_yields_List is_joined _ _ c.find.result c.find.ensures.ran (YieldsList-from_slice c.args.t cc) (λ x b q k. search (rules, tests))) _ c.map_or.ensures (λ x q. search rules),
      c.addresses_of.ensures,
    )
