use Rattle.std.proofs.Common.{ap, sym, ◌∙◌}
use Rattle.hub_rows.specs.Keyed.{by_key, put_all}
use Rattle.hub_rows.specs.LocalLists.{entry_key}
use Rattle.holdings.specs.LocalList.{not_named, with_info}
use Rattle.holdings.proofs.EntryLaws.{put_all-append}
use Rattle.holdings.proofs.local_list.entries_after.Goals as goal

pub returns : goal.returns
returns c =
    let kept = not_named c.args.sent.now c.args.kept in
    let sent = with_info c.args.sent.now in
    c.in_ok-list.ensures ∙ c.in_ok-put_sent.ensures
    ∙ ap (put_all (by_key entry_key) sent) (c.in_ok-put_kept.ensures ∙ ap (put_all (by_key entry_key) kept) c.new-entries.ensures)
    ∙ sym (put_all-append kept sent _)
