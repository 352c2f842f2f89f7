use Rattle.station_sim.proofs.replies.reply_to.Goals as goal

pub returns-in_ok-command_reply-in-Call : goal.returns-in_ok-command_reply-in-Call
returns-in_ok-command_reply-in-Call c = rw c.in-Call.is c.in_ok-command_reply-in-Call.ensures
