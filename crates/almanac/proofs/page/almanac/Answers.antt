use Rattle.std.proofs.Common.{◌≡◌, ◌++◌, length, string_bytes, refl, sym, ap, ◌∙◌, arith, rules, tests}
use Rattle.std.proofs.lemmas.List.{length_push}
use Rattle.std.proofs.lemmas.Iterator.{YieldsList}
use Rattle.std.proofs.lemmas.Iterator.Consumers.{YieldsList-at, YieldsList-from_filter_map, YieldsList-turn, YieldsList-end}
use Rattle.days.specs.Dates.{last_day}
use Rattle.days.proofs.Spans.{YieldsList-from_span}
use Rattle.almanac.specs.Almanac.{entry_at, entry_of, line_text, lines_before, counts_text}
use Rattle.almanac.proofs.Lines.{entries, get_or-entries, length-entries, none_differs, one_more}
use Rattle.almanac.proofs.page.almanac.Given as given
use Rattle.almanac.proofs.page.almanac.Goals as goal
use Rattle.almanac.proofs.page.almanac.Goals.{After-into_iter-entry-iterator}

-- What the loop goes over.
all_entries : (c : After-into_iter-entry-iterator) → YieldsList (given.iterator-loop-entry).next_gives (λ e. e) c.into_iter-entry-iterator.result entries
all_entries c =
    YieldsList-at c.into_iter-entry-iterator.ensures.into_iter_gives
    (YieldsList-from_filter_map _ entry_of
    (YieldsList-at c.filter_map-entry-items.ensures.source (YieldsList-from_span 0 last_day c.new.ensures.start c.new.ensures.end c.new.ensures.exhausted))
    c.filter_map-entry-items.ensures.closure (λ x r q k. search (rules, tests)))

pub loop-entry-init : goal.loop-entry-init
unfolding lines_before
loop-entry-init c = (c.new-text.ensures.bytes, refl)

pub loop-entry-preserved : goal.loop-entry-preserved
loop-entry-preserved c =
    let turn = YieldsList-turn (all_entries (goal.at.loop-entry-preserved c).After-into_iter-entry-iterator) c.loop-entry.yielded _ c.loop-entry.yielded_by _ c.next.new.self c.in-Some.entry c.in-Some.is c.next.ensures.steps in
    let n = length c.loop-entry.yielded in
    let at = get_or-entries n c.in-Some.entry turn in
    let none = c.differs.ensures ∙ none_differs n c.in-Some.entry at in
    let zero : c.from.result ≡ 0 = rw none at c.from.ensures in (
      c.in_ok-write.ensures.bytes ∙ ap (λ e. string_bytes c.loop-entry.text ++ line_text e) at
          ∙ ap (λ l. l ++ line_text (entry_at n)) c.loop-entry.invariant.0 ∙ sym (one_more n)
          ∙ ap lines_before (sym (length_push c.loop-entry.yielded c.in-Some.entry)),
      omega (arith, c.loop-entry.invariant.1),
    )

pub returns : goal.returns
returns c =
    let end = YieldsList-end (all_entries (goal.at.returns c).After-into_iter-entry-iterator) c.loop-entry.yielded _ c.loop-entry.yielded_by _ _ c.in-None.is c.next.ensures.steps in
    c.in_ok-writeln.ensures.bytes
    ∙ ap (λ l. l ++ counts_text 18263 c.loop-entry.different) (c.loop-entry.invariant.0 ∙ ap lines_before (end.1 ∙ length-entries))
    ∙ ap (λ d. lines_before 18263 ++ counts_text 18263 d) c.loop-entry.invariant.1
