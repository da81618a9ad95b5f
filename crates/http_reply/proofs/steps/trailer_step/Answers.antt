use Rattle.http_reply.proofs.steps.trailer_step.Goals as goal

pub returns-in_default-clause-fits : goal.returns-in_default-clause-fits
returns-in_default-clause-fits c = c.wait_within.ensures.fits c.args.reply.now c.args.rest.now
