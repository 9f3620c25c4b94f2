use Rattle.lra_course_rows.proofs.state.Rows.advance.Goals as goal

pub start-requires : goal.start-requires
start-requires c = (rw (← c.self.view_is) at c.requires.counts)

pub join-requires : goal.join-requires
join-requires c = (rw (← c.self.view_is) at c.requires.counts)

pub leave-requires : goal.leave-requires
leave-requires c = (rw (← c.self.view_is) at c.requires.counts)

pub set_status-requires : goal.set_status-requires
set_status-requires c = (rw (← c.self.view_is) at c.requires.counts)

pub set_status-requires-in-Cancel : goal.set_status-requires-in-Cancel
set_status-requires-in-Cancel c = (rw (← c.self.view_is) at c.requires.counts)

pub skip-requires : goal.skip-requires
skip-requires c = (rw (← c.self.view_is) at c.requires.counts)

pub ask-requires-clause-counts : goal.ask-requires-clause-counts
ask-requires-clause-counts c = (rw (← c.self.view_is) at c.requires.counts)

pub reply-requires : goal.reply-requires
reply-requires c = (rw (← c.self.view_is) at c.requires.counts)

pub report-requires : goal.report-requires
report-requires c = (rw (← c.self.view_is) at c.requires.counts)

pub set_status-requires-in-End : goal.set_status-requires-in-End
set_status-requires-in-End c = (rw (← c.self.view_is) at c.requires.counts)
