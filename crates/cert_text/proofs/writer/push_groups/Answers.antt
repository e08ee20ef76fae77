use Rattle.cert_text.proofs.TextLemmas.{appends_more}
use Rattle.cert_text.proofs.writer.push_groups.Goals as goal

pub returns : goal.returns
returns c =
    rw (← c.grouping.view_is)
    (rw (← c.deref.ensures.value, ← c.deref-2.ensures.value)
    (appends_more _ _ _ _ _ c.in_ok-push_classes.ensures c.in_ok-push_regions.ensures))
