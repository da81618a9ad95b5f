use Rattle.http_reply.proofs.steps.head_step.Goals as goal

pub returns-in_default-clause-fits : goal.returns-in_default-clause-fits
returns-in_default-clause-fits c = c.wait_within.ensures.fits c.args.reply.now c.args.rest.now

pub returns-clause-fits : goal.returns-clause-fits
returns-clause-fits c =
    c.after_head.ensures.fits c.args.reply.now c.judge_head.new.reply c.args.rest.now
    c.in_ok-kind.ensures.within c.in_ok-kind.ensures.small c.in_ok-kind.ensures.no_body
