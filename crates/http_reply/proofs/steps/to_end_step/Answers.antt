use Rattle.http_reply.proofs.steps.to_end_step.Goals as goal

pub returns-clause-fits : goal.returns-clause-fits
returns-clause-fits c = c.wait_within.ensures.fits c.args.reply.now c.args.rest.now
